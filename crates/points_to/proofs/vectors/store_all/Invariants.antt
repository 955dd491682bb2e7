use Rattle.std.proofs.Common.{take}
use Rattle.points_to.proofs.VectorLoops.{Storing}
use Rattle.points_to.proofs.vectors.store_all.Given as goal

abbrev pub invariant-loop-cell : goal.invariant-loop-cell
invariant-loop-cell l = Storing l.initial.stored l.stored l.added (take l.cell-index l.cells) l.n
