use Rattle.std.proofs.Common.{ℕ, List, ◌++◌, sym, ap, ◌∙◌}
use Rattle.std.specs.List.{flat_map}
use Rattle.points_to.specs.declared.facts.Item.{Item}
use Rattle.points_to.specs.Bits.{block_words}
use Rattle.points_to.specs.Held.{item, in_part}
use Rattle.points_to.proofs.FromRuns.{map_flat}
use Rattle.points_to.proofs.Loops.{flat_next, flat_done}
use Rattle.points_to.proofs.items.append_row.Goals as goal

pub loop-block-preserved : goal.loop-block-preserved
loop-block-preserved c = flat_next (λ b. in_part c.args.row.now.part (block_words b)) _ _ _ _ _ _
    c.loop-block-test.true c.loop-block.invariant c.in_ok-push_block.ensures

pub returns : goal.returns
returns c =
    let one : ℕ × ℕ → List Item = λ b. in_part c.args.row.now.part (block_words b) in
    flat_done one _ _ _ _ c.loop-block-test.false c.loop-block.invariant
    ∙ ap (λ bs. c.args.out.now ++ flat_map one bs) c.as_slice-block-items.ensures.value
    ∙ ap (λ l. c.args.out.now ++ l)
    (sym (map_flat (item c.args.row.now.part) block_words c.args.row.now.words.blocks.items))
