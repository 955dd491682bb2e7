use Rattle.std.proofs.Common.{◌≡◌, ℕ, ◌+◌, List, [], ◌∷◌, ◌++◌, map, take, length, sym, ap, ◌∙◌, subst, arith, take_all, length-append}
use Rattle.std.proofs.lemmas.List.{take_more, map-append}
use Rattle.core_reader.specs.declared.syntax.Bind as code
use Rattle.core_reader.specs.Tree.{bind}
use Rattle.arity_check.specs.Tables.{known}
use Rattle.arity_check.specs.Builds.{AddsGroup}
use Rattle.arity_check.proofs.NoFaults.{app_head, app_args, member_sound}
use Rattle.arity_check.proofs.Building.{build_no_members, build_more_members}
use Rattle.arity_check.proofs.Flats.{flat_of_app}
use Rattle.arity_check.proofs.flat.Builder.members.Goals as goal

pub loop-member-init : goal.loop-member-init
loop-member-init c = record {
  count = ap length c.new-locals.ensures;
  adds = λ p k. subst (AddsGroup p c.args.scope.now c.args.self.now c.args.self.now [])
      (sym c.new-locals.ensures) (build_no_members p c.args.scope.now c.args.self.now);
}

pub flat-requires-clause-head : goal.flat-requires-clause-head
flat-requires-clause-head c =
    app_head (known c.args.globals.now) c.args.scope.now c.member-item.result.app
    (length c.as_slice.result.now) (ap length c.as_slice.ensures)
    (member_sound (known c.args.globals.now) c.args.scope.now c.args.group.now
    c.loop-member.member-index c.member-item.result (omega arith) c.member-item.is c.requires)

pub flat-requires-clause-args : goal.flat-requires-clause-args
flat-requires-clause-args c =
    app_args (known c.args.globals.now) c.args.scope.now c.member-item.result.app
    c.as_slice.result.now c.as_slice.ensures
    (member_sound (known c.args.globals.now) c.args.scope.now c.args.group.now
    c.loop-member.member-index c.member-item.result (omega arith) c.member-item.is c.requires)

pub loop-member-preserved : goal.loop-member-preserved
loop-member-preserved c =
    let i : ℕ = c.loop-member.member-index in
    let items : List code.Bind = c.args.group.now in
    let x : code.Bind = c.member-item.result in
    let place : take (i + 1) items ≡ take i items ++ x ∷ []
    = take_more items i x (omega arith) ∙ ap (λ y. take i items ++ y ∷ [])
    (sym c.member-item.is) in
    let all : map bind (take (i + 1) items) ≡ map bind (take i items) ++ bind x ∷ []
    = ap (map bind) place ∙ map-append bind (take i items) (x ∷ []) in
    record {
      count = ap length c.in_ok-push.ensures.ok ∙ omega (
        arith,
        length-append c.loop-member.locals (c.in_ok-bind.field-0 ∷ []),
        c.loop-member.invariant.count,
      );
      adds = λ p k.
          let flat = flat_of_app p c.args.scope.now c.loop-member.self c.flat.new.self x.app
          c.as_slice.result.now c.in_ok-form.form c.as_slice.ensures (c.in_ok-form.ensures p k)
          in
          let more = build_more_members p c.args.scope.now c.args.self.now c.loop-member.self
          c.flat.new.self c.bind.new.self (map bind (take i items)) (bind x)
          c.loop-member.locals c.in_ok-bind.field-0 c.in_ok-form.form
          (c.loop-member.invariant.adds p k) flat c.in_ok-bind.ensures.local
          c.in_ok-bind.ensures.adds in
          rw (all, c.in_ok-push.ensures.ok) more;
    }

pub returns-clause-adds : goal.returns-clause-adds
returns-clause-adds c = λ p k.
    let whole : take c.loop-member.member-index c.args.group.now ≡ c.args.group.now
    = take_all c.loop-member.member-index c.args.group.now (omega arith) in
    subst (λ xs. AddsGroup p c.args.scope.now c.args.self.now c.loop-member.self (map bind xs)
    c.loop-member.locals) whole (c.loop-member.invariant.adds p k)
