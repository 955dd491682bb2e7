use Rattle.std.proofs.Common.{take}
use Rattle.std.specs.List.{flat_map}
use Rattle.flow_system.specs.Shown.{tables_of}
use Rattle.points_to.specs.Held.{fetched_at}
use Rattle.points_to.specs.Known.{held}
use Rattle.points_to.specs.Reads.{cell_reads}
use Rattle.points_to.specs.Rows.{GainsMembers}
use Rattle.points_to.specs.Worklist.{RegistersAt}
use Rattle.points_to.proofs.worklist.Worklist.fetch_cells.Given as goal

abbrev pub invariant-loop-cell : goal.invariant-loop-cell
invariant-loop-cell l = record {
  registers : RegistersAt l.initial.self l.self l.n
      (flat_map cell_reads (take l.cell-index l.cells));
  gets : GainsMembers l.initial.words l.words
      (flat_map (fetched_at (tables_of l.system) (held l.initial.self.facts) l.i)
      (take l.cell-index l.cells));
}
