use Rattle.std.proofs.Common.{◌≡◌, take}
use Rattle.pass_ground.specs.Uses.{cells_use}
use Rattle.pass_ground.proofs.uses.cells_use.Given as goal

abbrev pub invariant-loop-cell : goal.invariant-loop-cell
invariant-loop-cell l = l.used ≡ cells_use l.x.0 (take l.cell-index l.cells)
