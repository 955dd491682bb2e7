use Rattle.std.proofs.Common.{◌≡◌, ℕ, ◌++◌, List, sym, ap, ◌∙◌, subst}
use Rattle.std.specs.List.{flat_map}
use Rattle.flow_system.specs.declared.fact.Part.TheVariants.{Word}
use Rattle.flow_system.specs.Shown.{tables_of, inclusions_of}
use Rattle.points_to.specs.Bits.{block_words}
use Rattle.points_to.specs.declared.facts.Item.{Item}
use Rattle.points_to.specs.Held.{item, in_part}
use Rattle.points_to.specs.Known.{held}
use Rattle.points_to.specs.Rows.{words_in, numbers_in, SameMembers}
use Rattle.points_to.specs.Stored.{values_in}
use Rattle.points_to.specs.ValueWords.{words_of_values}
use Rattle.points_to.proofs.BlockSets.{same_map}
use Rattle.points_to.proofs.FromRuns.{map_flat}
use Rattle.points_to.proofs.Loops.{flat_next, flat_done}
use Rattle.points_to.proofs.vectors.words_met.Goals as goal

-- the words of a block, as items
abbrev at : ℕ × ℕ → List Item
at b = in_part (Word 0) (block_words b)

pub loop-block-preserved : goal.loop-block-preserved
loop-block-preserved c = flat_next at _ _ _ _ _ _ c.loop-block-test.true c.loop-block.invariant
    c.in_ok-push_block.ensures

pub returns : goal.returns
returns c =
    let blocks = c.as_slice-block-items.result.now in
    let set = c.in_ok-found.found in
    let asked = words_of_values (tables_of c.args.system.now)
    (values_in (inclusions_of c.args.system.now)) (held c.args.kept.now.facts) c.args.i
    (numbers_in c.args.numbers.now) in
    let items : c.loop-block.items ≡ in_part (Word 0) (words_in set) =
    flat_done at _ _ _ _ c.loop-block-test.false c.loop-block.invariant ∙ ap
    (λ l. l ++ flat_map at blocks) c.new-items.ensures
    ∙ sym (map_flat (item (Word 0)) block_words blocks) ∙ ap
    (λ bs. in_part (Word 0) (flat_map block_words bs)) c.as_slice-block-items.ensures.value in
    subst (λ l. SameMembers l (in_part (Word 0) asked)) (sym items)
    (same_map (item (Word 0)) (words_in set) asked c.in_ok-found.ensures)
