use Rattle.std.proofs.Common.{◌≡◌, ℕ, suc, ◌+◌, ◌<◌, List, [], ◌∷◌, ◌++◌, map, set, length, refl, sym, ap, ◌∙◌, arith, rules, length-append}
use Rattle.std.proofs.lemmas.List.{length-map, map-append, map-set}
use Rattle.core_reader.specs.declared.syntax.Binder.{Binder}
use Rattle.std.proofs.lemmas.Iterator.Adapters.{YieldsList-from_vec}
use Rattle.std.proofs.lemmas.Iterator.Consumers.{YieldsList-end}
use Rattle.seq.proofs.Lists.{map_same}
use Rattle.core_reader.specs.declared.syntax.Expr.TheVariants as code-expr
use Rattle.core_reader.specs.declared.syntax.Function as code-function
use Rattle.core_reader.specs.Tree as core
use Rattle.core_reader.proofs.TreeOf as core-tree
use Rattle.core_reader.specs.Machine.{◌⊹◌ as ◌⊹ᶜ◌}
use Rattle.lambda_reader.specs.declared.syntax.Atom.{Atom}
use Rattle.lambda_reader.specs.declared.syntax.Bind.{Bind}
use Rattle.lambda_reader.specs.declared.syntax.Alt.{Alt}
use Rattle.lambda_reader.specs.Tree.{Term, Expr, NoBinds, Alts, NoAlts, Program}
use Rattle.lambda_reader.specs.Code.{term, terms_of, member, group_of, expr, alternative, alts_of}
use Rattle.lambda_reader.proofs.TreeOf.{application_of, term_of-Name, term_of-Con, term_of-Int, expr_of-Let, expr_of-Case}
use Rattle.arity_check.specs.Scope.{Scope}
use Rattle.lambda_lift.specs.Headers.{binders_of, within}
use Rattle.lambda_lift.specs.Free.{free}
use Rattle.lambda_lift.specs.Abstractions.{Abstraction, in_term, in_terms, in_group, in_expr, in_alts}
use Rattle.lambda_lift.specs.Lifted.{arguments, parameters, lifted_name, lifted_function, lift_term, lift_terms, lift_group, lift, lift_alts}
use Rattle.lambda_lift.specs.Gathered.{program_of_names}
use Rattle.lambda_lift.specs.Growing.{with_lifted_functions, lift_app}
use Rattle.lambda_lift.specs.Broadest.{abstraction, lambdas_in_application}
use Rattle.lambda_lift.proofs.Grown.{replaced, grows_joined, grows_none, made_count, terms_more}
use Rattle.lambda_lift.proofs.Members.{in_terms_more, group_more, alts_more, core_more, in_joined, in_alts_joined, lift_joined, lift_alts_joined}
use Rattle.lambda_lift.proofs.Leaving.{leaves}
use Rattle.lambda_lift.proofs.lifted.+lift.Goals as goal

pub under-returns-clause-scope : goal.under-returns-clause-scope
under-returns-clause-scope t c =
    leaves (program_of_names c.args.words.now) c.args.binders.now c.args.scope.now
    c.enter_all.new.scope c.expr.new.scope c.leave.new.self c.len-depth.result
    c.len-depth.ensures c.in_ok-enter_all.ensures c.in_ok-new.ensures.scope c.leave.ensures

pub app-loop-arg-preserved : goal.app-loop-arg-preserved
app-loop-arg-preserved t c =
    let d : Program = program_of_names c.args.words.now in
    let s : Scope = c.args.scope.now in
    let start : List core.Function = map core.function c.atom.new.made in
    let before = c.loop-arg.yielded in
    let x : Atom = c.in-Some.arg in
    let ts = map term before in
    let more : map term (before ++ x ∷ []) ≡ ts ++ term x ∷ [] = map-append term before (x ∷ []) in
    let made : map core.function c.atom-in-loop-arg.new.made ≡ with_lifted_functions d start
    (in_terms d s (terms_of (map term (before ++ x ∷ [])))) =
    c.in_ok-atom.ensures.made ∙
    (λ i. with_lifted_functions d (c.loop-arg.invariant.made i)
    (in_term d (c.loop-arg.invariant.scope i) (term x)))
    ∙ sym (grows_joined d start (in_terms d s (terms_of ts)) (in_term d s (term x))) ∙ sym
    (ap (with_lifted_functions d start)
    (ap (λ ts. in_terms d s (terms_of ts)) more ∙ in_terms_more d s ts (term x))) in
    let many : length c.loop-arg.made ≡ length c.atom.new.made + length (in_terms d s (terms_of ts))
    = made_count d c.atom.new.made c.loop-arg.made (in_terms d s (terms_of ts))
    c.loop-arg.invariant.made in
    let new : core.term c.in_ok-atom.field-0 ≡ lift_term d s
    (length c.atom.new.made + length (in_terms d s (terms_of ts))) (term x) =
    c.in_ok-atom.ensures.lifted ∙
    (λ i. lift_term d (c.loop-arg.invariant.scope i) (many i) (term x)) in
    record {
      head = c.loop-arg.invariant.head;
      scope = c.in_ok-atom.ensures.scope ∙ c.loop-arg.invariant.scope;
      made = made;
      args = ap (λ as'. core.terms_of (map core.term as')) c.in_ok-push.ensures.ok ∙ ap
          core.terms_of (map-append core.term c.loop-arg.args (c.in_ok-atom.field-0 ∷ []))
          ∙ terms_more d s (length c.atom.new.made) (map core.term c.loop-arg.args)
          (core.term c.in_ok-atom.field-0) ts (term x) c.loop-arg.invariant.args new
          ∙ sym (ap (λ ts. lift_terms d s (length c.atom.new.made) (terms_of ts)) more);
    }

pub app-returns-clause-made : goal.app-returns-clause-made
app-returns-clause-made t c =
    let d : Program = program_of_names c.args.words.now in
    let s : Scope = c.args.scope.now in
    let all = YieldsList-end (YieldsList-from_vec c.args.app.args (search rules) (search rules))
    c.loop-arg.yielded c.loop-arg.arg-iterator c.loop-arg.yielded_by _ c.next.new.self
    c.in-None.is c.next.ensures.steps in
    let read : c.loop-arg.yielded ≡ c.args.app.args = sym (map_same c.loop-arg.yielded) ∙ all.0 in
    c.loop-arg.invariant.made ∙ ap
    (λ made. with_lifted_functions d made
    (in_terms d s (terms_of (map term c.loop-arg.yielded)))) c.in_ok-head.ensures.made
    ∙ sym (grows_joined d (map core.function c.args.made.now) (in_term d s (term c.args.app.head))
    (in_terms d s (terms_of (map term c.loop-arg.yielded))))
    ∙ ap (λ ts. with_lifted_functions d (map core.function c.args.made.now)
    (in_term d s (term c.args.app.head) ++ in_terms d s (terms_of (map term ts)))) read
    ∙ ap (λ a. with_lifted_functions d (map core.function c.args.made.now)
    (lambdas_in_application d s a)) (sym (application_of c.args.app))

pub app-returns-clause-lifted : goal.app-returns-clause-lifted
app-returns-clause-lifted t c =
    let d : Program = program_of_names c.args.words.now in
    let s : Scope = c.args.scope.now in
    let k : ℕ = length c.args.made.now in
    let all = YieldsList-end (YieldsList-from_vec c.args.app.args (search rules) (search rules))
    c.loop-arg.yielded c.loop-arg.arg-iterator c.loop-arg.yielded_by _ c.next.new.self
    c.in-None.is c.next.ensures.steps in
    let read : c.loop-arg.yielded ≡ c.args.app.args = sym (map_same c.loop-arg.yielded) ∙ all.0 in
    let many : length c.atom.new.made ≡ k + length (in_term d s (term c.args.app.head))
    = made_count d c.args.made.now c.atom.new.made (in_term d s (term c.args.app.head))
    c.in_ok-head.ensures.made in
    let head = ap core.term c.loop-arg.invariant.head ∙ c.in_ok-head.ensures.lifted in
    let args : core.terms_of (map core.term c.loop-arg.args) ≡ lift_terms d s
    (k + length (in_term d s (term c.args.app.head))) (terms_of (map term c.args.app.args)) =
    c.loop-arg.invariant.args ∙ (λ i. lift_terms d s (many i) (terms_of (map term (read i)))) in
    core-tree.application_of _ ∙ (λ i. record { head = head i; args = args i }) ∙ ap
    (lift_app d s k) (sym (application_of c.args.app))

pub under-returns-clause-made : goal.under-returns-clause-made
under-returns-clause-made t c =
    c.in_ok-new.ensures.made ∙ ap
    (λ s. with_lifted_functions (program_of_names c.args.words.now)
    (map core.function c.args.made.now)
    (in_expr (program_of_names c.args.words.now) s (expr c.args.body)))
    c.in_ok-enter_all.ensures

pub under-returns-clause-lifted : goal.under-returns-clause-lifted
under-returns-clause-lifted t c =
    c.in_ok-new.ensures.lifted ∙ ap
    (λ s. lift (program_of_names c.args.words.now) s (length c.args.made.now)
    (expr c.args.body)) c.in_ok-enter_all.ensures

pub app-loop-arg-init : goal.app-loop-arg-init
app-loop-arg-init t c = record {
  head = refl;
  scope = c.in_ok-head.ensures.scope;
  made = sym (grows_none (program_of_names c.args.words.now) (map core.function c.atom.new.made));
  args = ap (λ as'. core.terms_of (map core.term as')) c.new-args.ensures;
}

pub members-loop-bind-init : goal.members-loop-bind-init
members-loop-bind-init t c = record {
  scope = refl;
  made = sym (grows_none (program_of_names c.args.words.now) (map core.function c.args.made.now));
  members = ap (map core.bind) c.new-members.ensures;
}

pub members-loop-bind-preserved : goal.members-loop-bind-preserved
members-loop-bind-preserved t c =
    let d : Program = program_of_names c.args.words.now in
    let s : Scope = c.args.scope.now in
    let start = c.args.made.now in
    let before = c.loop-bind.yielded in
    let x : Bind = c.in-Some.bind in
    let g = group_of (map member before) in
    let one = member x NoBinds in
    let many : length c.loop-bind.made ≡ length start + length (in_group d s g)
    = made_count d start c.loop-bind.made (in_group d s g) c.loop-bind.invariant.made in
    record {
      scope = c.in_ok-member.ensures.scope ∙ c.loop-bind.invariant.scope;
      made =
          c.in_ok-member.ensures.made ∙
          (λ i. with_lifted_functions d (c.loop-bind.invariant.made i)
          (in_group d (c.loop-bind.invariant.scope i) one))
          ∙ sym (grows_joined d (map core.function start) (in_group d s g) (in_group d s one)) ∙ sym
          (ap (with_lifted_functions d (map core.function start))
          (ap (in_group d s) (group_more before x) ∙ in_joined d s g one));
      members =
          ap (map core.bind) c.in_ok-push.ensures.ok ∙ map-append core.bind c.loop-bind.members
          (_ ∷ [])
          ∙ (λ i. (c.loop-bind.invariant.members i)
          ++ ((c.in_ok-member.ensures.lifted ∙
          (λ j. lift_group d (c.loop-bind.invariant.scope j) (many j) one)) i))
          ∙ sym (ap (lift_group d s (length start)) (group_more before x) ∙ lift_joined d s
          (length start) g one);
    }

pub members-returns-clause-made : goal.members-returns-clause-made
members-returns-clause-made t c =
    let d : Program = program_of_names c.args.words.now in
    let all = YieldsList-end (YieldsList-from_vec c.args.group (search rules) (search rules))
    c.loop-bind.yielded c.loop-bind.bind-iterator c.loop-bind.yielded_by _ c.next.new.self
    c.in-None.is c.next.ensures.steps in
    let read : c.loop-bind.yielded ≡ c.args.group = sym (map_same c.loop-bind.yielded) ∙ all.0 in
    c.loop-bind.invariant.made ∙ ap
    (λ bs. with_lifted_functions d (map core.function c.args.made.now)
    (in_group d c.args.scope.now (group_of (map member bs)))) read

pub members-returns-clause-lifted : goal.members-returns-clause-lifted
members-returns-clause-lifted t c =
    let d : Program = program_of_names c.args.words.now in
    let all = YieldsList-end (YieldsList-from_vec c.args.group (search rules) (search rules))
    c.loop-bind.yielded c.loop-bind.bind-iterator c.loop-bind.yielded_by _ c.next.new.self
    c.in-None.is c.next.ensures.steps in
    let read : c.loop-bind.yielded ≡ c.args.group = sym (map_same c.loop-bind.yielded) ∙ all.0 in
    c.loop-bind.invariant.members ∙ ap
    (λ bs. lift_group d c.args.scope.now (length c.args.made.now) (group_of (map member bs)))
    read

pub alternatives-loop-alt-init : goal.alternatives-loop-alt-init
alternatives-loop-alt-init t c = record {
  scope = refl;
  made = sym (grows_none (program_of_names c.args.words.now) (map core.function c.args.made.now));
  arms = ap (λ as'. core.alts_of (map core.alternative as')) c.new-arms.ensures;
}

pub alternatives-loop-alt-preserved : goal.alternatives-loop-alt-preserved
alternatives-loop-alt-preserved t c =
    let d : Program = program_of_names c.args.words.now in
    let s : Scope = c.args.scope.now in
    let start = c.args.made.now in
    let before = c.loop-alt.yielded in
    let x : Alt = c.in-Some.alt in
    let g = alts_of (map alternative before) in
    let one = alternative x NoAlts in
    let many : length c.loop-alt.made ≡ length start + length (in_alts d s g)
    = made_count d start c.loop-alt.made (in_alts d s g) c.loop-alt.invariant.made in
    record {
      scope = c.in_ok-alternative.ensures.scope ∙ c.loop-alt.invariant.scope;
      made =
          c.in_ok-alternative.ensures.made ∙
          (λ i. with_lifted_functions d (c.loop-alt.invariant.made i)
          (in_alts d (c.loop-alt.invariant.scope i) one))
          ∙ sym (grows_joined d (map core.function start) (in_alts d s g) (in_alts d s one)) ∙ sym
          (ap (with_lifted_functions d (map core.function start))
          (ap (in_alts d s) (alts_more before x) ∙ in_alts_joined d s g one));
      arms =
          ap (λ as'. core.alts_of (map core.alternative as')) c.in_ok-push.ensures.ok ∙ core_more
          c.loop-alt.arms _
          ∙ (λ i. (c.loop-alt.invariant.arms i) ⊹ᶜ
          ((c.in_ok-alternative.ensures.lifted ∙
          (λ j. lift_alts d (c.loop-alt.invariant.scope j) (many j) one)) i))
          ∙ sym (ap (lift_alts d s (length start)) (alts_more before x) ∙ lift_alts_joined d s
          (length start) g one);
    }

pub alternatives-returns-clause-made : goal.alternatives-returns-clause-made
alternatives-returns-clause-made t c =
    let d : Program = program_of_names c.args.words.now in
    let all = YieldsList-end (YieldsList-from_vec c.args.alts (search rules) (search rules))
    c.loop-alt.yielded c.loop-alt.alt-iterator c.loop-alt.yielded_by _ c.next.new.self
    c.in-None.is c.next.ensures.steps in
    let read : c.loop-alt.yielded ≡ c.args.alts = sym (map_same c.loop-alt.yielded) ∙ all.0 in
    c.loop-alt.invariant.made ∙ ap
    (λ as'. with_lifted_functions d (map core.function c.args.made.now)
    (in_alts d c.args.scope.now (alts_of (map alternative as')))) read

pub alternatives-returns-clause-lifted : goal.alternatives-returns-clause-lifted
alternatives-returns-clause-lifted t c =
    let d : Program = program_of_names c.args.words.now in
    let all = YieldsList-end (YieldsList-from_vec c.args.alts (search rules) (search rules))
    c.loop-alt.yielded c.loop-alt.alt-iterator c.loop-alt.yielded_by _ c.next.new.self
    c.in-None.is c.next.ensures.steps in
    let read : c.loop-alt.yielded ≡ c.args.alts = sym (map_same c.loop-alt.yielded) ∙ all.0 in
    c.loop-alt.invariant.arms ∙ ap
    (λ as'. lift_alts d c.args.scope.now (length c.args.made.now)
    (alts_of (map alternative as'))) read

-- what makes no function
none_made : (d : Program) (s : Scope) (made : List core.Function) (a : Atom) (t : Term) → term a ≡ t
    → in_term d s t ≡ [] → made ≡ with_lifted_functions d made (in_term d s (term a))
none_made d s made a t e n = sym
    (ap (with_lifted_functions d made) (ap (in_term d s) e ∙ n) ∙ grows_none d made)

pub atom-returns-in-Name-clause-made : goal.atom-returns-in-Name-clause-made
atom-returns-in-Name-clause-made t c =
    none_made (program_of_names c.args.words.now) c.args.scope.now
    (map core.function c.args.made.now) c.args.atom _
    (ap term c.in-Name.is ∙ term_of-Name c.in-Name.name c.in-Name.at) refl

pub atom-returns-in-Con-clause-made : goal.atom-returns-in-Con-clause-made
atom-returns-in-Con-clause-made t c =
    none_made (program_of_names c.args.words.now) c.args.scope.now
    (map core.function c.args.made.now) c.args.atom _
    (ap term c.in-Con.is ∙ term_of-Con c.in-Con.name c.in-Con.at) refl

pub atom-returns-in-Int-clause-made : goal.atom-returns-in-Int-clause-made
atom-returns-in-Int-clause-made t c =
    none_made (program_of_names c.args.words.now) c.args.scope.now
    (map core.function c.args.made.now) c.args.atom _
    (ap term c.in-Int.is ∙ term_of-Int c.in-Int.k c.in-Int.at) refl

-- a function in the place of one that stands for it
module _ (names : List (List ℕ)) (s : Scope) (params : List Binder) (body : Expr) (at : ℕ) where
  abbrev d : Program
  d = program_of_names names

  abbrev own : Abstraction
  own = abstraction s params body at

  abbrev inner : List Abstraction
  inner = in_expr d (within d params s) body

  placed : (old pushed done last : List code-function.Function) (other f : code-function.Function)
      (number : ℕ) → number ≡ length old → pushed ≡ old ++ other ∷ []
      → map core.function done ≡ with_lifted_functions d (map core.function pushed) inner
      → last ≡ set done number f → core.function f ≡ lifted_function d number own
      → map core.function last ≡ with_lifted_functions d (map core.function old) (own ∷ inner)
  placed old pushed done last other f number n p made l e =
      let many : number ≡ length (map core.function old) = n ∙ sym (length-map old core.function) in
      ap (map core.function) l ∙ map-set core.function done number f
      ∙ ap (λ xs. set xs number (core.function f))
      (made ∙ ap (λ ys. with_lifted_functions d ys inner)
      (ap (map core.function) p ∙ map-append core.function old (other ∷ [])))
      ∙ ap (λ n. set
      (with_lifted_functions d (map core.function old ++ core.function other ∷ []) inner) n
      (core.function f)) many
      ∙ replaced d (map core.function old) (core.function other) (core.function f) own inner
      (e ∙ ap (λ n. lifted_function d n own) many)

  within_made : (old pushed done : List code-function.Function) (other : code-function.Function)
      (number : ℕ) → number ≡ length old → pushed ≡ old ++ other ∷ []
      → map core.function done ≡ with_lifted_functions d (map core.function pushed) inner
      → number < length done
  within_made old pushed done other number n p made
      = omega (
        arith,
        n,
        ap length p,
        length-append old (other ∷ []),
        made_count d pushed done inner made,
      )

pub abstraction-finish-requires : goal.abstraction-finish-requires
abstraction-finish-requires t c =
    let d : Program = program_of_names c.args.words.now in
    let s : Scope = c.args.scope.now in
    let body : Expr = expr c.args.body in
    let done : map core.function c.under.new.made ≡ with_lifted_functions d
    (map core.function c.begin.new.made) (in_expr d (within d c.args.params s) body) =
    c.in_ok-body.ensures.made ∙ ap
    (λ bs. with_lifted_functions d (map core.function c.begin.new.made)
    (in_expr d (within d bs s) body)) c.as_slice-2.ensures in
    within_made c.args.words.now s c.args.params body c.args.at c.args.made.now c.begin.new.made
    c.under.new.made _ c.len-number.result c.len-number.ensures c.in_ok-begun.ensures.made.1 done

pub abstraction-returns-clause-made : goal.abstraction-returns-clause-made
abstraction-returns-clause-made t c =
    let d : Program = program_of_names c.args.words.now in
    let s : Scope = c.args.scope.now in
    let body : Expr = expr c.args.body in
    let pushed : length c.begin.new.made ≡ suc c.len-number.result
    = ap length c.in_ok-begun.ensures.made.1 ∙ length-append c.args.made.now _ ∙ omega
    (arith, c.len-number.ensures) in
    let done : map core.function c.under.new.made ≡ with_lifted_functions d
    (map core.function c.begin.new.made) (in_expr d (within d c.args.params s) body) =
    c.in_ok-body.ensures.made ∙ ap
    (λ bs. with_lifted_functions d (map core.function c.begin.new.made)
    (in_expr d (within d bs s) body)) c.as_slice-2.ensures in
    let name : c.in_ok-begun.begun.name.0 ≡ lifted_name d c.len-number.result
    = ap (λ n. n.0) c.in_ok-begun.ensures.name ∙ ap (lifted_name d) (sym c.len-number.ensures) in
    let all : c.in_ok-begun.begun.params ++ c.args.params ≡ parameters c.args.at
    (free d s c.args.params body) ++ c.args.params =
    ap (λ ps. ps ++ c.args.params)
    (c.in_ok-begun.ensures.params ∙ ap (λ ps. parameters c.args.at (free d s ps body))
    c.as_slice.ensures) in
    let new : core.expr c.in_ok-body.body ≡ lift d (within d c.args.params s)
    (suc c.len-number.result) body =
    c.in_ok-body.ensures.lifted ∙
    (λ i. lift d (within d (c.as_slice-2.ensures i) s) (pushed i) body) in
    let f : code-function.Function = record {
      name = c.in_ok-begun.begun.name;
      at = c.args.at;
      params = c.in_ok-begun.begun.params ++ c.args.params;
      body = c.in_ok-body.body;
    } in
    let is : core.function f ≡ lifted_function d c.len-number.result
    (abstraction s c.args.params body c.args.at) =
    λ i. record { name = name i; at = c.args.at; params = all i; body = new i } in
    placed c.args.words.now s c.args.params body c.args.at c.args.made.now c.begin.new.made
    c.under.new.made c.finish.new.made _ f c.len-number.result c.len-number.ensures
    c.in_ok-begun.ensures.made.1 done c.in_ok-app.ensures.made is

pub abstraction-returns-clause-lifted : goal.abstraction-returns-clause-lifted
abstraction-returns-clause-lifted t c =
    let d : Program = program_of_names c.args.words.now in
    let s : Scope = c.args.scope.now in
    let body : Expr = expr c.args.body in
    let head : core.Name c.in_ok-begun.begun.name.0 c.args.at ≡ core.Name
    (lifted_name d (length c.args.made.now)) c.args.at =
    ap (λ n. core.Name n c.args.at) (ap (λ n. n.0) c.in_ok-begun.ensures.name) in
    let args : core.terms_of (map core.term c.in_ok-begun.begun.args) ≡ arguments c.args.at
    (free d s c.args.params body) =
    c.in_ok-begun.ensures.args ∙ ap (λ ps. arguments c.args.at (free d s ps body))
    c.as_slice.ensures in
    c.in_ok-app.ensures.app ∙ (λ i. record { head = head i; args = args i })

pub expr-returns-in_ok-new-in-Let-clause-scope : goal.expr-returns-in_ok-new-in-Let-clause-scope
expr-returns-in_ok-new-in-Let-clause-scope t c =
    leaves (program_of_names c.args.words.now) c.as_slice-in-Let.result.now c.args.scope.now
    c.enter_all.new.scope c.expr.new.scope c.leave.new.self c.len-depth.result
    c.len-depth.ensures c.in_ok-enter_all-in-Let.ensures
    (c.in_ok-inner-in-Let.ensures.scope ∙ c.in_ok-binds-in-Let.ensures.scope) c.leave.ensures

pub expr-returns-in_ok-new-in-Let-clause-made : goal.expr-returns-in_ok-new-in-Let-clause-made
expr-returns-in_ok-new-in-Let-clause-made t c =
    let d : Program = program_of_names c.args.words.now in
    let s : Scope = c.args.scope.now in
    let start : List core.Function = map core.function c.args.made.now in
    let g = group_of (map member c.in-Let.group) in
    let body : Expr = expr c.in-Let.body.value in
    let inner : Scope = within d (binders_of g) s in
    let entered : c.enter_all.new.scope ≡ inner =
    c.in_ok-enter_all-in-Let.ensures ∙ ap (λ bs. within d bs s)
    (c.as_slice-in-Let.ensures ∙ c.in_ok-binders-in-Let.ensures ∙ ap
    (λ g. binders_of (group_of (map member g))) c.as_slice.ensures) in
    c.in_ok-inner-in-Let.ensures.made
    ∙ (λ i. with_lifted_functions d (c.in_ok-binds-in-Let.ensures.made i)
    (in_expr d (c.in_ok-binds-in-Let.ensures.scope i) (expr (c.into_inner.ensures i))))
    ∙ (λ i. with_lifted_functions d (with_lifted_functions d start (in_group d (entered i) g))
    (in_expr d (entered i) body))
    ∙ sym (grows_joined d start (in_group d inner g) (in_expr d inner body))
    ∙ ap (λ e. with_lifted_functions d start (in_expr d s e))
    (sym (expr_of-Let c.in-Let.group c.in-Let.body) ∙ ap expr (sym c.in-Let.is))

pub expr-returns-in_ok-new-in-Let-clause-lifted : goal.expr-returns-in_ok-new-in-Let-clause-lifted
expr-returns-in_ok-new-in-Let-clause-lifted t c =
    let d : Program = program_of_names c.args.words.now in
    let s : Scope = c.args.scope.now in
    let k : ℕ = length c.args.made.now in
    let g = group_of (map member c.in-Let.group) in
    let body : Expr = expr c.in-Let.body.value in
    let inner : Scope = within d (binders_of g) s in
    let entered : c.enter_all.new.scope ≡ inner =
    c.in_ok-enter_all-in-Let.ensures ∙ ap (λ bs. within d bs s)
    (c.as_slice-in-Let.ensures ∙ c.in_ok-binders-in-Let.ensures ∙ ap
    (λ g. binders_of (group_of (map member g))) c.as_slice.ensures) in
    let many : length c.members.new.made ≡ k + length (in_group d inner g) =
    made_count d c.args.made.now c.members.new.made _ c.in_ok-binds-in-Let.ensures.made ∙
    (λ i. k + length (in_group d (entered i) g)) in
    let binds : map core.bind c.in_ok-binds-in-Let.binds ≡ lift_group d inner k g
    = c.in_ok-binds-in-Let.ensures.lifted ∙ (λ i. lift_group d (entered i) k g) in
    let new : core.expr c.in_ok-new-in-Let.field-0.value ≡ lift d inner
    (k + length (in_group d inner g)) body =
    ap core.expr c.in_ok-new-in-Let.ensures.ok ∙ c.in_ok-inner-in-Let.ensures.lifted
    ∙ (λ i. lift d ((c.in_ok-binds-in-Let.ensures.scope ∙ entered) i) (many i)
    (expr (c.into_inner.ensures i))) in
    ap (λ bs. core.expr (code-expr.Let bs c.in_ok-new-in-Let.field-0)) c.binds.view_is ∙
    core-tree.expr_of-Let c.in_ok-binds-in-Let.binds c.in_ok-new-in-Let.field-0 ∙
    (λ i. core.Let (binds i) (new i))
    ∙ ap (lift d s k) (sym (expr_of-Let c.in-Let.group c.in-Let.body) ∙ ap expr (sym c.in-Let.is))

pub expr-returns-in_ok-new-in-Case-clause-made : goal.expr-returns-in_ok-new-in-Case-clause-made
expr-returns-in_ok-new-in-Case-clause-made t c =
    let d : Program = program_of_names c.args.words.now in
    let s : Scope = c.args.scope.now in
    let start : List core.Function = map core.function c.args.made.now in
    let tested : Expr = expr c.in-Case.tested.value in
    let alts : Alts = alts_of (map alternative c.in-Case.alts) in
    c.in_ok-arms-in-Case.ensures.made
    ∙ (λ i. with_lifted_functions d
    ((c.in_ok-value-in-Case.ensures.made ∙ ap
    (λ e. with_lifted_functions d start (in_expr d s (expr e))) c.into_inner-in-Case.ensures) i)
    (in_alts d (c.in_ok-value-in-Case.ensures.scope i) alts))
    ∙ sym (grows_joined d start (in_expr d s tested) (in_alts d s alts))
    ∙ ap (λ e. with_lifted_functions d start (in_expr d s e))
    (sym (expr_of-Case c.in-Case.tested c.in-Case.alts) ∙ ap expr (sym c.in-Case.is))

pub expr-returns-in_ok-new-in-Case-clause-lifted : goal.expr-returns-in_ok-new-in-Case-clause-lifted
expr-returns-in_ok-new-in-Case-clause-lifted t c =
    let d : Program = program_of_names c.args.words.now in
    let s : Scope = c.args.scope.now in
    let k : ℕ = length c.args.made.now in
    let tested : Expr = expr c.in-Case.tested.value in
    let alts : Alts = alts_of (map alternative c.in-Case.alts) in
    let many : length c.expr-in-Case.new.made ≡ k + length (in_expr d s tested) =
    made_count d c.args.made.now c.expr-in-Case.new.made _ c.in_ok-value-in-Case.ensures.made ∙ ap
    (λ e. k + length (in_expr d s (expr e))) c.into_inner-in-Case.ensures in
    let value : core.expr c.in_ok-new-in-Case.field-0.value ≡ lift d s k tested =
    ap core.expr c.in_ok-new-in-Case.ensures.ok ∙ c.in_ok-value-in-Case.ensures.lifted ∙ ap
    (λ e. lift d s k (expr e)) c.into_inner-in-Case.ensures in
    let arms : core.alts_of (map core.alternative c.in_ok-arms-in-Case.arms) ≡ lift_alts d s
    (k + length (in_expr d s tested)) alts =
    c.in_ok-arms-in-Case.ensures.lifted ∙
    (λ i. lift_alts d (c.in_ok-value-in-Case.ensures.scope i) (many i) alts) in
    core-tree.expr_of-Case c.in_ok-new-in-Case.field-0 c.in_ok-arms-in-Case.arms ∙
    (λ i. core.Case (value i) (arms i))
    ∙ ap (lift d s k)
    (sym (expr_of-Case c.in-Case.tested c.in-Case.alts) ∙ ap expr (sym c.in-Case.is))
