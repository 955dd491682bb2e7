use Rattle.std.proofs.Common.{rules, refl}
use Rattle.flow_system.specs.Shown.{tables_of}
use Rattle.flow_system.specs.declared.fact.Place.TheVariants.{Result}
use Rattle.flow_system.specs.declared.fact.Part.TheVariants.{Word}
use Rattle.points_to.specs.Known.{held}
use Rattle.points_to.proofs.HeldFacts.{numbered_facts, one_numbered, numbered_step, held_next, held_done}
use Rattle.points_to.proofs.satisfied.stand_at_result.Goals as goal

pub loop-w-init : goal.loop-w-init
loop-w-init c = λ h. h

pub loop-w-preserved : goal.loop-w-preserved
loop-w-preserved c =
    let p = tables_of c.args.system.now in
    let H = held c.args.facts.now in
    let q = Result c.args.f in
    held_next H (numbered_facts p H q Word) (one_numbered p H q Word) (numbered_step p H q Word) _ _
    _ _ _ _ c.loop-w-test.true (search rules) (c.stands_at.ensures c.if-not-stands_at.false)
    c.loop-w.invariant

pub returns : goal.returns
returns c = λ t.
    let p = tables_of c.args.system.now in
    let H = held c.args.facts.now in
    let q = Result c.args.f in
    held_done H (numbered_facts p H q Word) (one_numbered p H q Word) (λ j. refl) _ _ _ _
    c.loop-w-test.false c.loop-w.invariant
