use Rattle.std.proofs.Common.{refl}
use Rattle.std.specs.List.{flat_map}
use Rattle.points_to.specs.Bits.{block_numbers, block_words}
use Rattle.points_to.specs.Held.{in_part}
use Rattle.points_to.specs.Rows.{numbers_in, row_items, GainsMembers}
use Rattle.points_to.proofs.Sets.{on_ok}
use Rattle.points_to.proofs.Rows.{row_gains}
use Rattle.points_to.proofs.items.gain_row.Goals as goal

pub returns-clause-gets : goal.returns-clause-gets
returns-clause-gets c =
    let row = c.args.row.now in
    let new = record row { words = c.gain_all.new.self } in
    let bs = c.args.blocks.now in
    on_ok c.gain_all.result
    (GainsMembers (numbers_in row.words) (numbers_in new.words) (flat_map block_numbers bs))
    (GainsMembers (row_items row) (row_items new) (in_part row.part (flat_map block_words bs)))
    (row_gains row new bs refl) c.gain_all.ensures
