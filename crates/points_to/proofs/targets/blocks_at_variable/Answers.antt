use Rattle.std.proofs.Common.{◌++◌, sym, ap, ◌∙◌}
use Rattle.flow_system.specs.declared.fact.Place.TheVariants.{Var}
use Rattle.flow_system.specs.declared.fact.Part.TheVariants.{Word}
use Rattle.points_to.specs.Asked.{facts_at}
use Rattle.points_to.specs.Bits.{block_words}
use Rattle.points_to.specs.Held.{in_part}
use Rattle.points_to.proofs.FromRuns.{facts_of_blocks}
use Rattle.points_to.proofs.Loops.{flat_next, flat_done}
use Rattle.points_to.proofs.targets.blocks_at_variable.Goals as goal

pub loop-block-preserved : goal.loop-block-preserved
loop-block-preserved c = flat_next
    (λ b. facts_at (Var c.args.x.0) (in_part (Word 0) (block_words b))) _ _ _ _ _ _
    c.loop-block-test.true c.loop-block.invariant c.in_ok-push.ensures

pub returns : goal.returns
returns c =
    flat_done (λ b. facts_at (Var c.args.x.0) (in_part (Word 0) (block_words b))) _ _ _ _
    c.loop-block-test.false c.loop-block.invariant
    ∙ ap (λ l. c.args.out.now ++ l)
    (sym (facts_of_blocks (Var c.args.x.0) (Word 0) c.args.blocks.now))
