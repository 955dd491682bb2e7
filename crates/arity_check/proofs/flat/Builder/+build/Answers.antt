use Rattle.std.proofs.Common.{rules, ◌≡◌, ℕ, ◌+◌, ◌<◌, List, [], ◌∷◌, ◌++◌, map, take, drop, get_or, length, sym, ap, ◌∙◌, subst, arith, take_all, length-append}
use Rattle.std.proofs.lemmas.List.{take_more, map-append}
use Rattle.std.specs.Int.{cast_signed, cast_unsigned, w32}
use Rattle.core_reader.specs.declared.syntax.Atom.{Atom}
use Rattle.core_reader.specs.declared.syntax.App.{App}
use Rattle.core_reader.specs.Tree.{term}
use Rattle.arity_check.specs.Scope.{Scope}
use Rattle.arity_check.specs.Known.{Known, meaning}
use Rattle.arity_check.specs.Tables.{known}
use Rattle.arity_check.specs.Faults.{args_faults}
use Rattle.arity_check.specs.Builds.{AddsArgs, AddsNamed}
use Rattle.arity_check.specs.declared.normal.Var.TheVariants as var
use Rattle.arity_check.specs.declared.normal.Flat.TheVariants as flat
use Rattle.arity_check.proofs.Names.{meaning_means}
use Rattle.arity_check.proofs.Weight.{term_weight, terms_weight}
use Rattle.arity_check.proofs.NoFaults.{arg_sound, arg_weight, front_sound, back_sound, front_weight, back_weight}
use Rattle.arity_check.proofs.Building.{build_applied, build_itself, build_new, build_no_args, build_more_args}
use Rattle.arity_check.proofs.Flats.{if_ok, terms, no_items, some_items, no_members, some_members, flat_int, flat_int_applied, flat_con, flat_name, flat_lone_head, flat_lone_bracket, flat_bracket, named_local, named_primitive, two_items, bracket_weight, head_in_bracket, args_in_bracket, named_global, named_call, named_part, named_exceeded}
use Rattle.arity_check.proofs.flat.Builder.+build.Goals as goal

pub applied-returns : goal.applied-returns
applied-returns t c = λ p k.
    build_applied p c.args.scope.now c.args.self.now c.bind.new.self c.args-2.new.self
    c.in_ok-local.local c.args.form (terms c.args.args.now) c.in_ok-vars.vars
    c.in_ok-local.ensures.local c.in_ok-local.ensures.adds (c.in_ok-vars.ensures.adds p k)

pub arg-returns-in-Some : goal.arg-returns-in-Some
arg-returns-in-Some t c = λ p k. build_itself p c.args.scope.now c.args.self.now
    (term c.args.arg.now) c.in-Some.var (sym (c.in-Some.ensures p k))

pub arg-returns : goal.arg-returns
arg-returns t c = λ p k.
    build_new p c.args.scope.now c.args.self.now c.flat.new.self c.bind.new.self
    (term c.args.arg.now) c.in_ok-form.form c.in_ok-local.local
    (sym (c.in_default.ensures p k)) (c.in_ok-form.ensures p k) c.in_ok-local.ensures.local
    c.in_ok-local.ensures.adds

pub args-loop-arg-init : goal.args-loop-arg-init
args-loop-arg-init t c = record {
  count = ap length c.new-vars.ensures;
  adds = λ p k. subst
      (λ xs. AddsArgs p c.args.scope.now c.args.self.now c.args.self.now (terms []) xs)
      (sym c.new-vars.ensures) (build_no_args p c.args.scope.now c.args.self.now);
}

pub args-arg-requires : goal.args-arg-requires
args-arg-requires t c =
    let w : term_weight (term c.arg-item.result) + 3 < terms_weight (terms c.args.args.now)
    = arg_weight c.args.args.now c.loop-arg.arg-index c.arg-item.result (omega arith)
    c.arg-item.is in (
      omega (arith, w),
      arg_sound (known c.args.globals.now) c.args.scope.now c.args.args.now
          c.loop-arg.arg-index c.arg-item.result (omega arith) c.arg-item.is c.requires,
    )

pub args-loop-arg-preserved : goal.args-loop-arg-preserved
args-loop-arg-preserved t c =
    let i : ℕ = c.loop-arg.arg-index in
    let items : List Atom = c.args.args.now in
    let place : take (i + 1) items ≡ take i items ++ c.arg-item.result ∷ []
    = take_more items i c.arg-item.result (omega arith) ∙ ap (λ x. take i items ++ x ∷ [])
    (sym c.arg-item.is) in
    let all : map term (take (i + 1) items) ≡ map term (take i items) ++ term c.arg-item.result ∷ []
    = ap (map term) place ∙ map-append term (take i items) (c.arg-item.result ∷ []) in
    record {
      count = ap length c.in_ok-push.ensures.ok ∙ omega
          (arith, length-append c.loop-arg.vars (c.in_ok-var.var ∷ []), c.loop-arg.invariant.count);
      adds = λ p k.
          let more = build_more_args p c.args.scope.now c.args.self.now c.loop-arg.self
          c.arg.new.self (map term (take i items)) (term c.arg-item.result) c.loop-arg.vars
          c.in_ok-var.var
          (c.loop-arg.invariant.adds p k) (c.in_ok-var.ensures p k) in
          rw (all, c.in_ok-push.ensures.ok) more;
    }

pub args-returns-clause-adds : goal.args-returns-clause-adds
args-returns-clause-adds t c = λ p k.
    let whole : take c.loop-arg.arg-index c.args.args.now ≡ c.args.args.now
    = take_all c.loop-arg.arg-index c.args.args.now (omega arith) in
    subst (λ xs. AddsArgs p c.args.scope.now c.args.self.now c.loop-arg.self (terms xs)
    c.loop-arg.vars) whole (c.loop-arg.invariant.adds p k)

pub flat-returns-then-is_empty : goal.flat-returns-then-is_empty
flat-returns-then-is_empty t c = λ p k.
    let number : cast_signed w32 (cast_unsigned w32 c.in-Int.number) ≡ c.in-Int.number
    = search rules in
    flat_int p c.args.scope.now c.args.self.now c.args.head.now c.args.args.now c.in-Int.number _
    c.in-Int.field-1 c.in-Int.is
    (no_items c.args.args.now c.is_empty.result c.is_empty.ensures c.if-is_empty.true) number

pub flat-returns-then-is_empty-2 : goal.flat-returns-then-is_empty-2
flat-returns-then-is_empty-2 t c =
    let none : c.in-Bracket.app.value.args ≡ [] = sym (ap (λ (a : App). a.args) c.deref.ensures) ∙
    no_members c.deref.result.now.args c.is_empty-in-Bracket.result
    c.is_empty-in-Bracket.ensures c.if-is_empty-2.true in
    if_ok c.flat.result
    (λ form h p k. flat_lone_head p c.args.scope.now c.args.self.now c.flat.new.self
    c.args.head.now c.in-Bracket.app c.in-Bracket.field-1 c.deref-then-is_empty-2.result.now
    (terms c.args.args.now) form
    c.in-Bracket.is c.deref-then-is_empty-2.ensures none (h p k)) c.flat.ensures

pub flat-flat-requires-in-Bracket : goal.flat-flat-requires-in-Bracket
flat-flat-requires-in-Bracket t c =
    let k : Known = known c.args.globals.now in
    let s : Scope = c.args.scope.now in
    let inner : c.deref-in-Bracket.result.now ≡ c.in-Bracket.app.value = c.deref-in-Bracket.ensures
    in
    let items : c.as_slice.result.now ≡ c.in-Bracket.app.value.args
    = c.as_slice.ensures ∙ ap (λ (a : App). a.args) c.deref-in-Bracket-2.ensures in
    let some : c.in-Bracket.app.value.args ≡ [] → ⊥
    = λ e. some_members c.deref.result.now.args c.is_empty-in-Bracket.result
    c.is_empty-in-Bracket.ensures c.if-is_empty-2.false
    (ap (λ (a : App). a.args) c.deref.ensures ∙ e) in
    let w = bracket_weight c.args.head.now c.in-Bracket.app c.in-Bracket.field-1
    c.deref-in-Bracket.result.now c.as_slice.result.now c.in-Bracket.is inner items in (
      omega (arith, w),
      (
        head_in_bracket k s (length c.args.args.now) (length c.as_slice.result.now) c.args.head.now
            c.in-Bracket.app c.in-Bracket.field-1 c.deref-in-Bracket.result.now c.in-Bracket.is
            inner (ap length items) some c.requires.head,
        args_in_bracket k s (length c.args.args.now) c.args.head.now c.in-Bracket.app
            c.in-Bracket.field-1 c.as_slice.result.now c.in-Bracket.is items c.requires.head,
      ),
    )

pub flat-returns-then-is_empty-3 : goal.flat-returns-then-is_empty-3
flat-returns-then-is_empty-3 t c = λ p k.
    flat_lone_bracket p c.args.scope.now c.args.self.now c.flat-in-Bracket.new.self c.args.head.now
    c.in-Bracket.app c.in-Bracket.field-1 c.deref-in-Bracket.result.now c.as_slice.result.now
    c.args.args.now c.in_ok-inner-in-Bracket.inner
    c.in-Bracket.is c.deref-in-Bracket.ensures
    (c.as_slice.ensures ∙ ap (λ (a : App). a.args) c.deref-in-Bracket-2.ensures)
    (no_items c.args.args.now c.is_empty-in-Bracket-2.result c.is_empty-in-Bracket-2.ensures
    c.if-is_empty-3.true) (c.in_ok-inner-in-Bracket.ensures p k)

pub flat-returns-else-is_empty : goal.flat-returns-else-is_empty
flat-returns-else-is_empty t c =
    let number : cast_signed w32 (cast_unsigned w32 c.in-Int.number) ≡ c.in-Int.number
    = search rules in
    if_ok c.applied.result
    (λ form h p k. flat_int_applied p c.args.scope.now c.args.self.now c.applied.new.self
    c.args.head.now c.args.args.now c.in-Int.number _ c.in-Int.field-1 form
    c.in-Int.is
    (some_items c.args.args.now c.is_empty.result c.is_empty.ensures c.if-is_empty.false) number
    (h p k)) c.applied.ensures

pub flat-returns-in_ok-vars-in-Con : goal.flat-returns-in_ok-vars-in-Con
flat-returns-in_ok-vars-in-Con t c = λ p k.
    flat_con p c.args.scope.now c.args.self.now c.args-in-Con.new.self c.args.head.now c.in-Con.name
    c.in-Con.field-1 c.in-Some.number (terms c.args.args.now) c.in_ok-vars-in-Con.vars
    c.in-Con.is
    (ap (λ (k : Known). k.number c.in-Con.name.0) (sym k) ∙ sym c.in-Some.ensures)
    (c.in_ok-vars-in-Con.ensures.adds p k)

pub flat-returns-in-Name : goal.flat-returns-in-Name
flat-returns-in-Name t c =
    if_ok c.named.result
    (λ form h p k. flat_name p c.args.scope.now c.args.self.now c.named.new.self c.args.head.now
    c.in-Name.name c.in-Name.field-1 (terms c.args.args.now) c.meaning_of_name-stands.result
    form c.in-Name.is
    (c.meaning_of_name-stands.ensures ∙ ap (λ k. meaning k c.args.scope.now c.in-Name.name.0) k ∙
    meaning_means p c.args.scope.now c.in-Name.name.0) (h p k)) c.named.ensures

pub flat-returns-else-is_empty-3 : goal.flat-returns-else-is_empty-3
flat-returns-else-is_empty-3 t c =
    let some : c.in-Bracket.app.value.args ≡ [] → ⊥
    = λ e. some_members c.deref.result.now.args c.is_empty-in-Bracket.result
    c.is_empty-in-Bracket.ensures c.if-is_empty-2.false
    (ap (λ (a : App). a.args) c.deref.ensures ∙ e) in
    if_ok c.applied-in-Bracket.result
    (λ made h p k. flat_bracket p c.args.scope.now c.args.self.now c.flat-in-Bracket.new.self
    c.applied-in-Bracket.new.self c.args.head.now c.in-Bracket.app c.in-Bracket.field-1
    c.deref-in-Bracket.result.now c.as_slice.result.now c.args.args.now
    c.in_ok-inner-in-Bracket.inner made
    c.in-Bracket.is c.deref-in-Bracket.ensures
    (c.as_slice.ensures ∙ ap (λ (a : App). a.args) c.deref-in-Bracket-2.ensures) some
    (some_items c.args.args.now c.is_empty-in-Bracket-2.result c.is_empty-in-Bracket-2.ensures
    c.if-is_empty-3.false) (c.in_ok-inner-in-Bracket.ensures p k) (h p k))
    c.applied-in-Bracket.ensures

pub function-args-requires-then-params-args : goal.function-args-requires-then-params-args
function-args-requires-then-params-args t c =
    let front : c.split_at.result.0.now ≡ take c.args.params c.args.args.now
    = c.split_at.ensures.front in
    let w : terms_weight (terms c.split_at.result.0.now) < terms_weight (terms c.args.args.now)
    = rw front (front_weight c.args.args.now c.args.params c.if-params-args.true) in (
      omega (arith, w),
      ap (λ xs. args_faults (known c.args.globals.now) c.args.scope.now (terms xs))
          front ∙ front_sound (known c.args.globals.now) c.args.scope.now c.args.args.now
          c.args.params c.requires,
    )

pub function-applied-requires : goal.function-applied-requires
function-applied-requires t c =
    let back : c.split_at.result.1.now ≡ drop c.args.params c.args.args.now
    = c.split_at.ensures.back in
    let b = back_weight c.args.args.now c.args.params (omega arith) c.if-params-args.true in
    let w : terms_weight (terms c.split_at.result.1.now) < terms_weight (terms c.args.args.now)
    = rw back b in (
      omega (arith, w),
      ap (λ xs. args_faults (known c.args.globals.now) c.args.scope.now (terms xs))
          back ∙ back_sound (known c.args.globals.now) c.args.scope.now c.args.args.now
          c.args.params
          c.requires,
    )

pub function-returns-then-params-args : goal.function-returns-then-params-args
function-returns-then-params-args t c =
    if_ok c.applied.result
    (λ form h p k. named_exceeded p c.args.scope.now c.args.self.now
    c.args-then-params-args.new.self c.applied.new.self c.args.number c.args.params
    c.args.args.now c.split_at.result.0.now c.split_at.result.1.now
    c.in_ok-vars-2.vars form (omega arith) c.if-params-args.true c.split_at.ensures.front
    c.split_at.ensures.back c.in_ok-vars-2.ensures.count (c.in_ok-vars-2.ensures.adds p k)
    (h p k)) c.applied.ensures

pub function-returns-then-params-eq0 : goal.function-returns-then-params-eq0
function-returns-then-params-eq0 t c = λ p k.
    named_global p c.args.scope.now c.args.self.now c.args-then-params-eq0.new.self c.args.number
    c.args.params (terms c.args.args.now) c.in_ok-vars.vars c.if-params-eq0.true
    (c.in_ok-vars.ensures.adds p k)

pub function-returns-then-params-args-2 : goal.function-returns-then-params-args-2
function-returns-then-params-args-2 t c = λ p k.
    named_call p c.args.scope.now c.args.self.now c.args-2.new.self c.args.number c.args.params
    (terms c.args.args.now) c.in_ok-vars-3.vars c.if-params-eq0.false
    (c.in_ok-vars-3.ensures.count ∙ sym c.if-params-args-2.true) (c.in_ok-vars-3.ensures.adds p k)

pub function-returns-else-params-args-2 : goal.function-returns-else-params-args-2
function-returns-else-params-args-2 t c = λ p k.
    named_part p c.args.scope.now c.args.self.now c.args-2.new.self c.args.number c.args.params
    (terms c.args.args.now) c.in_ok-vars-3.vars (omega (arith, c.in_ok-vars-3.ensures.count))
    (c.in_ok-vars-3.ensures.adds p k)

pub named-returns-in_ok-vars-in-Local : goal.named-returns-in_ok-vars-in-Local
named-returns-in_ok-vars-in-Local t c = λ p k.
    subst (λ m. AddsNamed p c.args.scope.now c.args.self.now c.args-in-Local.new.self m
    (terms c.args.args.now)
    (flat.Apply (var.Local c.in-Local.local) c.in_ok-vars-in-Local.vars)) (sym c.in-Local.is)
    (named_local p c.args.scope.now c.args.self.now c.args-in-Local.new.self c.in-Local.local
    (terms c.args.args.now) c.in_ok-vars-in-Local.vars (c.in_ok-vars-in-Local.ensures.adds p k))

pub named-returns-in-len2 : goal.named-returns-in-len2
named-returns-in-len2 t c = λ p k.
    let items : c.in_ok-vars-in-Primitive.vars ≡ c.as_slice.result.now = sym c.as_slice.ensures in
    let two : c.as_slice.result.now ≡ get_or c.as_slice.result.now 0 (var.Local 0) ∷ get_or
    c.as_slice.result.now 1 (var.Local 0) ∷ [] = two_items c.as_slice.result.now (var.Local 0)
    c.in-len2.len_at_least c.in-len2.len_below in
    rw c.in-Primitive.is
    (named_primitive p c.args.scope.now c.args.self.now c.args-in-Primitive.new.self
    c.in-Primitive.op (terms c.args.args.now) c.in_ok-vars-in-Primitive.vars _ _ (items ∙ two)
    (c.in_ok-vars-in-Primitive.ensures.adds p k))
