use Rattle.std.proofs.Common.{◌≡◌, false, sym, ap, ◌∙◌, subst, slice_set}
use Rattle.std.specs.List.{flat_map}
use Rattle.std.proofs.lemmas.List.{set-get_or}
use Rattle.points_to.specs.PartOrder.{Ascending, StandsAt, GoesTo}
use Rattle.points_to.specs.Rows.{row_items, GainsMembers}
use Rattle.points_to.specs.Runs.{items_of_item_run}
use Rattle.points_to.proofs.Sets.{on_ok, if_ok}
use Rattle.points_to.proofs.Gets.{gets_at}
use Rattle.points_to.proofs.Rows.{row_none}
use Rattle.points_to.proofs.PartOrder.{set_ascending, still_ascending, gets_row}
use Rattle.points_to.proofs.items.add_new_in.Goals as goal

pub returns-in-Ok-clause-ascending : goal.returns-in-Ok-clause-ascending
returns-in-Ok-clause-ascending c =
    let rows = c.args.rows.now.items in
    let k = c.in-Ok.place in
    let h : StandsAt rows c.args.run.part k = subst (λ l. StandsAt l c.args.run.part k)
    c.as_slice.ensures.value c.in-Ok.ensures in
    set_ascending rows k c.index_mut.result.now c.add_block.new.row h.within
    c.index_mut.ensures.value c.add_block.ensures.same_part c.requires

pub returns-in-Ok-clause-gets : goal.returns-in-Ok-clause-gets
returns-in-Ok-clause-gets c =
    let rows = c.args.rows.now.items in
    let k = c.in-Ok.place in
    let is = items_of_item_run c.args.run in
    let h : StandsAt rows c.args.run.part k = subst (λ l. StandsAt l c.args.run.part k)
    c.as_slice.ensures.value c.in-Ok.ensures in
    on_ok c.add_block.result
    (GainsMembers (row_items c.index_mut.result.now) (row_items c.add_block.new.row) is)
    (GainsMembers (flat_map row_items rows)
    (flat_map row_items (slice_set rows k c.add_block.new.row)) is)
    (λ g. gets_at row_items is rows k c.index_mut.result.now c.add_block.new.row h.within
    c.index_mut.ensures.value g) c.add_block.ensures.gets

pub returns-in-Ok-clause-still : goal.returns-in-Ok-clause-still
returns-in-Ok-clause-still c =
    let rows = c.args.rows.now.items in
    let k = c.in-Ok.place in
    let old = c.index_mut.result.now in
    let new = c.add_block.new.row in
    if_ok c.add_block.result (λ added. added ≡ false → new ≡ old)
    (λ added. added ≡ false → slice_set rows k new ≡ rows)
    (λ added same e. ap (slice_set rows k) (same e ∙ c.index_mut.ensures.value) ∙ set-get_or rows k
    old) c.add_block.ensures.still

pub returns-in_ok-insert-in-Err-clause-ascending : goal.returns-in_ok-insert-in-Err-clause-ascending
returns-in_ok-insert-in-Err-clause-ascending c =
    let rows = c.args.rows.now.items in
    let k = c.in-Err.place in
    let row = c.add_block-in-Err.new.row in
    let h : GoesTo rows c.args.run.part k = subst (λ l. GoesTo l c.args.run.part k)
    c.as_slice.ensures.value c.in-Err.ensures in
    subst Ascending (sym c.in_ok-insert-in-Err.ensures.items)
    (still_ascending rows k row c.requires
    (subst (λ q. GoesTo rows q k) (sym c.add_block-in-Err.ensures.same_part) h))

pub returns-in_ok-insert-in-Err-clause-gets : goal.returns-in_ok-insert-in-Err-clause-gets
returns-in_ok-insert-in-Err-clause-gets c =
    let rows = c.args.rows.now.items in
    let row = c.add_block-in-Err.new.row in
    let is = items_of_item_run c.args.run in
    subst (λ l. GainsMembers (flat_map row_items rows) (flat_map row_items l) is)
    (sym c.in_ok-insert-in-Err.ensures.items)
    (gets_row rows c.in-Err.place row is
    (subst (λ l. GainsMembers l (row_items row) is)
    (row_none (record { part = c.args.run.part; words = c.new.result }) c.new.ensures)
    c.in_ok-add_block-in-Err.ensures.gets))
