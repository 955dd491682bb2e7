use Rattle.std.proofs.Common.{◌++◌, sym, ap, ◌∙◌}
use Rattle.std.specs.List.{flat_map}
use Rattle.points_to.specs.Bits.{block_words}
use Rattle.points_to.specs.Wanted.{tag_in}
use Rattle.points_to.proofs.Done.{flat_flat}
use Rattle.points_to.proofs.Loops.{flat_next, flat_done}
use Rattle.points_to.proofs.tables.put_all_tags.Goals as goal

pub loop-block-preserved : goal.loop-block-preserved
loop-block-preserved c = flat_next (λ b. flat_map tag_in (block_words b)) _ _ _ _ _ _
    c.loop-block-test.true c.loop-block.invariant c.in_ok-put_tags.ensures

pub returns : goal.returns
returns c =
    flat_done (λ b. flat_map tag_in (block_words b)) _ _ _ _ c.loop-block-test.false
    c.loop-block.invariant
    ∙ ap (λ l. c.args.out.now ++ l) (sym (flat_flat tag_in block_words c.args.blocks.now))
