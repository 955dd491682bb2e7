use Rattle.std.proofs.Common.{take, get_or, sym, ap, subst, arith}
use Rattle.std.proofs.lemmas.List.{take_all}
use Rattle.core_reader.specs.declared.syntax.Binder.{Binder}
use Rattle.core_types.specs.declared.building.ConstraintBuilder.{ConstraintBuilder}
use Rattle.core_types.specs.Typing.{binds, binds_all}
use Rattle.core_types.specs.Building.{EntersLocals}
use Rattle.core_types.proofs.Grouped.{each_found, each_missing, binds_one, binds_stop}
use Rattle.core_types.proofs.Adding.{enters_at, enters_none, enters_then}
use Rattle.core_types.proofs.building.ConstraintBuilder.bind_all.Goals as goal

pub loop-i-init : goal.loop-i-init
loop-i-init c = λ s ls ts k i d. enters_none c.args.self.now ls i

pub loop-i-preserved : goal.loop-i-preserved
loop-i-preserved c = λ s ls ts k i d.
    let none : Binder = record { name = record { 0 = 0 }; at = 0 } in
    let a = c.args.self.now in
    let b : ConstraintBuilder = c.loop-i.self in
    let b' = c.bind.new.self in
    let n = c.loop-i.i in
    let bs = c.args.binders.now in
    let before = binds_all s (take n bs) ts ls in
    let g = c.loop-i.invariant s ls ts k i d in
    let f = each_found a.nodes ts c.args.terms.now n c.in-Some.term.now d
    c.in-Some.ensures.lookup.3.0 c.in-Some.ensures.lookup.1 in
    let e = c.in_ok-bind.ensures s before f.0 k (enters_at a b before g)
    (g.grows.one f.0 c.in-Some.term.now f.2) in
    subst (EntersLocals a b') (sym (binds_one s bs ts ls n none f.0 (omega arith) f.1))
    (enters_then a b b' before (binds s (get_or bs n none) f.0 before) g e)

pub returns-in_default : goal.returns-in_default
returns-in_default c = λ s ls ts k i d.
    let n = c.loop-i.i in
    subst (EntersLocals c.args.self.now c.loop-i.self)
    (sym (binds_stop s c.args.binders.now ts ls n
    (each_missing c.args.self.now.nodes ts c.args.terms.now n d c.in_default.ensures.lookup.3)))
    (c.loop-i.invariant s ls ts k i d)

pub returns : goal.returns
returns c = λ s ls ts k i d.
    subst (EntersLocals c.args.self.now c.loop-i.self)
    (ap (λ bs. binds_all s bs ts ls) (take_all c.loop-i.i c.args.binders.now (omega arith)))
    (c.loop-i.invariant s ls ts k i d)
