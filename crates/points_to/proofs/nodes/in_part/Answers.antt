use Rattle.std.proofs.Common.{◌++◌, sym, ap, ◌∙◌}
use Rattle.points_to.specs.Bits.{block_words}
use Rattle.points_to.specs.Held.{item, in_part}
use Rattle.points_to.proofs.FromRuns.{map_flat}
use Rattle.points_to.proofs.Loops.{flat_next, flat_done}
use Rattle.points_to.proofs.nodes.in_part.Goals as goal

pub loop-block-preserved : goal.loop-block-preserved
loop-block-preserved c = flat_next (λ b. in_part c.args.part (block_words b)) _ _ _ _ _ _
    c.loop-block-test.true c.loop-block.invariant c.in_ok-push_block.ensures

pub returns : goal.returns
returns c =
    flat_done (λ b. in_part c.args.part (block_words b)) _ _ _ _ c.loop-block-test.false
    c.loop-block.invariant
    ∙ ap (λ l. c.args.out.now ++ l)
    (sym (map_flat (item c.args.part) block_words c.blocks-block-items.result.now) ∙ ap
    (in_part c.args.part) c.blocks-block-items.ensures)
