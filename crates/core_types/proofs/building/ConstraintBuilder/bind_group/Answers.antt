use Rattle.std.proofs.Common.{take, map, refl, sym, ap, subst, arith}
use Rattle.std.proofs.lemmas.List.{take_all}
use Rattle.core_reader.specs.Tree.{bind}
use Rattle.core_types.specs.declared.building.ConstraintBuilder.{ConstraintBuilder}
use Rattle.core_types.specs.Typing.{Open, AtBinder, binds, with_group}
use Rattle.core_types.specs.Building.{EntersLocals}
use Rattle.core_types.proofs.Grouped.{with_one}
use Rattle.core_types.proofs.Adding.{adds_nodes, at_kept, enters_at, enters_none, enters_then, enters_after}
use Rattle.core_types.proofs.building.ConstraintBuilder.bind_group.Goals as goal

pub loop-member-init : goal.loop-member-init
loop-member-init c = λ s ls k i. enters_none c.args.self.now ls i

pub loop-member-preserved : goal.loop-member-preserved
loop-member-preserved c = λ s ls k i.
    let a = c.args.self.now in
    let b : ConstraintBuilder = c.loop-member.self in
    let b1 : ConstraintBuilder = record b { nodes = c.variable.new.self } in
    let b2 = c.bind.new.self in
    let member = c.member-item.result in
    let ms = map bind (take c.loop-member.member-index c.args.group.now) in
    let g = c.loop-member.invariant s ls k i in
    let at = enters_at a b (with_group s ms ls) g in
    let v = c.in_ok-term.ensures at.sound in
    let t = Open (AtBinder member.binder.at) in
    let e = c.in_ok-bind.ensures s (with_group s ms ls) t k
    (at_kept b b1 _ (with_group s ms ls) (adds_nodes b b1 v.grows refl refl refl) at) v.denotes
    in
    subst (EntersLocals a b2)
    (sym (with_one s c.args.group.now c.loop-member.member-index member (omega arith)
    c.member-item.is ls))
    (enters_then a b b2 (with_group s ms ls) (binds s member.binder t (with_group s ms ls)) g
    (enters_after b b1 b2 (binds s member.binder t (with_group s ms ls)) v.grows refl refl refl e))

pub returns : goal.returns
returns c = λ s ls k i.
    subst (EntersLocals c.args.self.now c.loop-member.self)
    (ap (λ ms. with_group s (map bind ms) ls)
    (take_all c.loop-member.member-index c.args.group.now (omega arith)))
    (c.loop-member.invariant s ls k i)
