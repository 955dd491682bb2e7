use Rattle.std.proofs.Common.{◌≡◌, ◌∙◌, sym, subst, slice_set}
use Rattle.std.specs.List.{flat_map}
use Rattle.points_to.specs.Bits.{block_words}
use Rattle.points_to.specs.Held.{in_part}
use Rattle.points_to.specs.PartOrder.{Ascending, StandsAt, GoesTo}
use Rattle.points_to.specs.Rows.{row_items, GainsMembers}
use Rattle.points_to.proofs.Sets.{on_ok}
use Rattle.points_to.proofs.Gets.{gets_at}
use Rattle.points_to.proofs.Rows.{row_none}
use Rattle.points_to.proofs.PartOrder.{part_read, set_ascending, still_ascending, gets_row}
use Rattle.points_to.proofs.items.gain_in.Goals as goal

pub returns-in-Ok-clause-ascending : goal.returns-in-Ok-clause-ascending
returns-in-Ok-clause-ascending c =
    let rows = c.args.rows.now.items in
    let k = c.in-Ok.place in
    let h : StandsAt rows c.args.part k = subst (λ l. StandsAt l c.args.part k)
    c.as_slice.ensures.value c.in-Ok.ensures in
    set_ascending rows k c.index_mut.result.now c.gain_row.new.row h.within
    c.index_mut.ensures.value c.gain_row.ensures.same_part c.requires

pub returns-in-Ok-clause-gets : goal.returns-in-Ok-clause-gets
returns-in-Ok-clause-gets c =
    let rows = c.args.rows.now.items in
    let k = c.in-Ok.place in
    let old = c.index_mut.result.now in
    let new = c.gain_row.new.row in
    let ws = flat_map block_words c.args.blocks.now in
    let is = in_part c.args.part ws in
    let h : StandsAt rows c.args.part k = subst (λ l. StandsAt l c.args.part k)
    c.as_slice.ensures.value c.in-Ok.ensures in
    let same : old.part ≡ c.args.part
    = sym (part_read rows k old h.within c.index_mut.ensures.value) ∙ h.part in
    on_ok c.gain_row.result
    (GainsMembers (row_items old) (row_items new) (in_part old.part ws))
    (GainsMembers (flat_map row_items rows) (flat_map row_items (slice_set rows k new)) is)
    (λ g. gets_at row_items is rows k old new h.within c.index_mut.ensures.value
    (subst (λ q. GainsMembers (row_items old) (row_items new) (in_part q ws)) same g))
    c.gain_row.ensures.gets

pub returns-in_ok-insert-in-Err-clause-ascending : goal.returns-in_ok-insert-in-Err-clause-ascending
returns-in_ok-insert-in-Err-clause-ascending c =
    let rows = c.args.rows.now.items in
    let k = c.in-Err.place in
    let row = c.gain_row-in-Err.new.row in
    let h : GoesTo rows c.args.part k = subst (λ l. GoesTo l c.args.part k)
    c.as_slice.ensures.value c.in-Err.ensures in
    subst Ascending (sym c.in_ok-insert-in-Err.ensures.items)
    (still_ascending rows k row c.requires
    (subst (λ q. GoesTo rows q k) (sym c.gain_row-in-Err.ensures.same_part) h))

pub returns-in_ok-insert-in-Err-clause-gets : goal.returns-in_ok-insert-in-Err-clause-gets
returns-in_ok-insert-in-Err-clause-gets c =
    let rows = c.args.rows.now.items in
    let row = c.gain_row-in-Err.new.row in
    let is = in_part c.args.part (flat_map block_words c.args.blocks.now) in
    subst (λ l. GainsMembers (flat_map row_items rows) (flat_map row_items l) is)
    (sym c.in_ok-insert-in-Err.ensures.items)
    (gets_row rows c.in-Err.place row is
    (subst (λ l. GainsMembers l (row_items row) is)
    (row_none (record { part = c.args.part; words = c.new.result }) c.new.ensures)
    c.in_ok-gain_row-in-Err.ensures.gets))
