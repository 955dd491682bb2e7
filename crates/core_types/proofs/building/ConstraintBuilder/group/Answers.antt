use Rattle.std.proofs.Common.{[], take, map, refl, ap, subst, arith}
use Rattle.std.proofs.lemmas.List.{take_all}
use Rattle.core_reader.specs.Tree.{bind, application}
use Rattle.core_types.specs.declared.building.ConstraintBuilder.{ConstraintBuilder}
use Rattle.core_types.specs.Typing.{Open, AtBinder, of_app, of_group}
use Rattle.core_types.specs.Building.{Adds}
use Rattle.core_types.proofs.Denoting.{grows_refl}
use Rattle.core_types.proofs.Grouped.{of_one}
use Rattle.core_types.proofs.Adding.{adds_nodes, adds_then, adds_as, at_kept}
use Rattle.core_types.proofs.building.ConstraintBuilder.group.Goals as goal

pub loop-member-init : goal.loop-member-init
loop-member-init c = λ s ls k i. adds_nodes c.args.self.now c.args.self.now
    (grows_refl c.args.self.now.nodes i.sound) refl refl refl

pub loop-member-preserved : goal.loop-member-preserved
loop-member-preserved c = λ s ls k i.
    let a = c.args.self.now in
    let b : ConstraintBuilder = c.loop-member.self in
    let b1 : ConstraintBuilder = record b { nodes = c.variable.new.self } in
    let b2 = c.application.new.self in
    let member = c.member-item.result in
    let ms = of_group s ls (map bind (take c.loop-member.member-index c.args.group.now)) in
    let g = c.loop-member.invariant s ls k i in
    let at = at_kept a b ms ls g i in
    let v = c.in_ok-term.ensures at.sound in
    let first = adds_nodes b b1 v.grows refl refl refl in
    let t = Open (AtBinder member.binder.at) in
    let own = of_app s ls t (application member.app) in
    adds_as a b2 _ _
    (of_one s c.args.group.now c.loop-member.member-index member (omega arith) c.member-item.is
    ls)
    (adds_then a b b2 ms own g (adds_then b b1 b2 [] own first
    (c.in_ok-application.ensures s ls t k (at_kept b b1 [] ls first at) v.denotes)))

pub returns : goal.returns
returns c = λ s ls k i.
    subst (Adds c.args.self.now c.loop-member.self)
    (ap (λ ms. of_group s ls (map bind ms))
    (take_all c.loop-member.member-index c.args.group.now (omega arith)))
    (c.loop-member.invariant s ls k i)
