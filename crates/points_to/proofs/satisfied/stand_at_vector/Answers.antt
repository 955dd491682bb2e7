use Rattle.std.proofs.Common.{rules, refl}
use Rattle.flow_system.specs.Shown.{tables_of}
use Rattle.flow_system.specs.declared.fact.Place.TheVariants.{Var}
use Rattle.flow_system.specs.declared.fact.Part.TheVariants.{Word}
use Rattle.points_to.specs.Asked.{vector_facts, facts_at}
use Rattle.points_to.specs.Held.{in_part, as_word, numbered}
use Rattle.points_to.specs.Known.{held}
use Rattle.points_to.proofs.HeldFacts.{held_next, held_done}
use Rattle.points_to.proofs.satisfied.stand_at_vector.Goals as goal

pub loop-x-init : goal.loop-x-init
loop-x-init c = λ h. h

pub loop-x-preserved : goal.loop-x-preserved
loop-x-preserved c =
    let p = tables_of c.args.system.now in
    let H = held c.args.facts.now in
    let X = numbered p H Word 0 c.args.words.now in
    held_next H (vector_facts p X) (λ j x. facts_at (Var x.0) (in_part (Word 0) (as_word p j X)))
    (λ j x xs. refl) _ _ _ _ _ _ c.loop-x-test.true (search rules)
    (c.nth_stands_at.ensures c.if-not-nth_stands_at.false) c.loop-x.invariant

pub returns : goal.returns
returns c = λ t.
    let p = tables_of c.args.system.now in
    let H = held c.args.facts.now in
    let X = numbered p H Word 0 c.args.words.now in
    held_done H (vector_facts p X) (λ j x. facts_at (Var x.0) (in_part (Word 0) (as_word p j X)))
    (λ j. refl) _ _ _ _ c.loop-x-test.false c.loop-x.invariant
