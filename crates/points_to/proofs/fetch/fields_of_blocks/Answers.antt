use Rattle.std.proofs.Common.{◌++◌, sym, ap, ◌∙◌}
use Rattle.std.specs.List.{flat_map}
use Rattle.flow_system.specs.Shown.{tables_of}
use Rattle.points_to.specs.Held.{field_of_tag}
use Rattle.points_to.specs.Bits.{block_words}
use Rattle.points_to.proofs.Loops.{flat_next, flat_done}
use Rattle.points_to.proofs.Done.{flat_flat}
use Rattle.points_to.proofs.fetch.fields_of_blocks.Goals as goal

pub loop-block-preserved : goal.loop-block-preserved
loop-block-preserved c =
    let fields = field_of_tag (tables_of c.args.system.now) c.args.i c.args.items.now in
    flat_next (λ b. flat_map fields (block_words b)) _ _ _ _ _ _ c.loop-block-test.true
    c.loop-block.invariant c.in_ok-fields_of_block.ensures

pub returns : goal.returns
returns c =
    let fields = field_of_tag (tables_of c.args.system.now) c.args.i c.args.items.now in
    flat_done (λ b. flat_map fields (block_words b)) _ _ _ _ c.loop-block-test.false
    c.loop-block.invariant ∙ ap (λ l. c.args.out.now ++ l)
    (sym (flat_flat fields block_words c.args.blocks.now))
