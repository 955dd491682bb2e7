use Rattle.std.proofs.Common.{◌≡◌, false, refl, ap}
use Rattle.points_to.specs.Bits.{block_numbers}
use Rattle.points_to.specs.Rows.{numbers_in, row_items, GainsMembers}
use Rattle.points_to.specs.Runs.{items_of_item_run}
use Rattle.points_to.proofs.Sets.{on_ok, if_ok}
use Rattle.points_to.proofs.Rows.{row_gets}
use Rattle.points_to.proofs.items.add_block.Goals as goal

pub returns-clause-gets : goal.returns-clause-gets
returns-clause-gets c =
    let row = c.args.row.now in
    let new = record row { words = c.add_new.new.self } in
    on_ok c.add_new.result
    (GainsMembers (numbers_in row.words) (numbers_in new.words)
    (block_numbers c.args.run.block))
    (GainsMembers (row_items row) (row_items new) (items_of_item_run c.args.run))
    (row_gets row new c.args.run c.requires refl) c.add_new.ensures.gets

pub returns-clause-still : goal.returns-clause-still
returns-clause-still c =
    let row = c.args.row.now in
    if_ok c.add_new.result (λ added. added ≡ false → c.add_new.new.self ≡ row.words)
    (λ added. added ≡ false → record row { words = c.add_new.new.self } ≡ row)
    (λ added same e. ap (λ s. record row { words = s }) (same e)) c.add_new.ensures.still
