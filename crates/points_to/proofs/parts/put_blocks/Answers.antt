use Rattle.std.proofs.Common.{◌++◌, sym, ap, ◌∙◌}
use Rattle.points_to.specs.Bits.{block_numbers}
use Rattle.points_to.specs.Known.{held}
use Rattle.points_to.specs.PartWords.{stored_part, part_of_values}
use Rattle.points_to.specs.Stored.{tables_in, value_at}
use Rattle.points_to.proofs.Loops.{flat_done}
use Rattle.points_to.proofs.Done.{flat_flat}
use Rattle.points_to.proofs.parts.put_blocks.Goals as goal

pub returns : goal.returns
returns c =
    let p = tables_in c.args.origin.now in
    let vs = c.args.origin.now.values in
    let H = held c.args.facts.now in
    flat_done (λ b. part_of_values p vs H c.args.part (block_numbers b)) _ _ _ _
    c.loop-block-test.false c.loop-block.invariant
    ∙ ap (λ l. c.args.out.now ++ l)
    (sym (flat_flat (λ n. stored_part p H c.args.part (value_at vs n)) block_numbers
    c.args.blocks.now))
