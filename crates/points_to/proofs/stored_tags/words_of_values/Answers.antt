use Rattle.std.proofs.Common.{◌++◌, sym, ap, ◌∙◌}
use Rattle.flow_system.specs.Shown.{tables_of, inclusions_of}
use Rattle.points_to.specs.Bits.{block_numbers}
use Rattle.points_to.specs.Known.{held}
use Rattle.points_to.specs.Stored.{values_in, value_at}
use Rattle.points_to.specs.ValueWords.{stored_words, words_of_values}
use Rattle.points_to.proofs.Loops.{flat_done}
use Rattle.points_to.proofs.Done.{flat_flat}
use Rattle.points_to.proofs.stored_tags.words_of_values.Goals as goal

pub returns : goal.returns
returns c =
    let p = tables_of c.args.system.now in
    let vs = values_in (inclusions_of c.args.system.now) in
    let H = held c.args.facts.now in
    flat_done (λ b. words_of_values p vs H c.args.i (block_numbers b)) _ _ _ _
    c.loop-block-test.false c.loop-block.invariant
    ∙ ap (λ l. c.args.out.now ++ l)
    (sym (flat_flat (λ n. stored_words p H c.args.i (value_at vs n)) block_numbers
    c.args.blocks.now))
