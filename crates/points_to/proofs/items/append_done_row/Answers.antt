use Rattle.std.proofs.Common.{ℕ, List, ◌++◌, sym, ap, ◌∙◌}
use Rattle.std.specs.List.{flat_map}
use Rattle.flow_system.specs.Shown.{tables_of}
use Rattle.points_to.specs.declared.facts.Item.{Item}
use Rattle.points_to.specs.Bits.{block_words}
use Rattle.points_to.specs.Held.{item, in_part, done_part, done_items}
use Rattle.points_to.proofs.Done.{flat_flat}
use Rattle.points_to.proofs.FromRuns.{map_flat}
use Rattle.points_to.proofs.Loops.{flat_next, flat_done}
use Rattle.points_to.proofs.items.append_done_row.Goals as goal

pub loop-block-preserved : goal.loop-block-preserved
loop-block-preserved c = flat_next
    (λ b. done_items (tables_of c.args.system.now) (in_part c.args.row.now.part (block_words b))) _
    _ _ _ _ _ c.loop-block-test.true c.loop-block.invariant c.in_ok-shift_evaluated.ensures

pub returns : goal.returns
returns c =
    let p = tables_of c.args.system.now in
    let part = c.args.row.now.part in
    let one : ℕ × ℕ → List Item = λ b. done_items p (in_part part (block_words b)) in
    let bs : List (ℕ × ℕ) = c.args.row.now.words.blocks.items in
    flat_done one _ _ _ _ c.loop-block-test.false c.loop-block.invariant
    ∙ ap (λ bs. c.args.out.now ++ flat_map one bs) c.as_slice-block-items.ensures.value
    ∙ ap (λ l. c.args.out.now ++ l)
    (sym (ap (done_items p) (map_flat (item part) block_words bs) ∙ flat_flat
    (λ i. done_part p i.part i.word) (λ b. in_part part (block_words b)) bs))
