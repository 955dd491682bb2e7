use Rattle.std.proofs.Common.{rules, refl}
use Rattle.flow_system.specs.declared.fact.Place.TheVariants.{Var}
use Rattle.flow_system.specs.declared.fact.Part.TheVariants.{Word}
use Rattle.flow_system.specs.Shown.{tables_of}
use Rattle.points_to.specs.Held.{in_part, as_word}
use Rattle.points_to.specs.Asked.{vector_facts, facts_at}
use Rattle.points_to.proofs.Loops.{numbered_next, numbered_done}
use Rattle.points_to.proofs.targets.vector_facts.Goals as goal

pub loop-x-preserved : goal.loop-x-preserved
loop-x-preserved c =
    let p = tables_of c.args.system.now in
    let X = c.args.items.now in
    numbered_next (vector_facts p X) (λ j x. facts_at (Var x.0) (in_part (Word 0) (as_word p j X)))
    (λ j x xs. refl) _ _ _ _ _ _ _ _ c.loop-x-test.true (search rules) c.loop-x.invariant
    c.in_ok-word_facts.ensures

pub returns : goal.returns
returns c = numbered_done (vector_facts (tables_of c.args.system.now) c.args.items.now) (λ j. refl)
    _ _ _ _ _ c.loop-x-test.false c.loop-x.invariant
