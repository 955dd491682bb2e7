use Rattle.std.proofs.Common.{take, []}
use Rattle.std.specs.List.{flat_map}
use Rattle.points_to.specs.Rows.{numbers_in, GainsMembers}
use Rattle.points_to.specs.Stored.{cell_stored}
use Rattle.points_to.proofs.kept.met_in.Given as goal

abbrev pub invariant-loop-cell : goal.invariant-loop-cell
invariant-loop-cell l = GainsMembers [] (numbers_in l.met)
    (flat_map (cell_stored l.stored) (take l.cell-index l.cells))
