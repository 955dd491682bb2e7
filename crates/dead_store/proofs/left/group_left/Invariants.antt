use Rattle.std.proofs.Common.{◌≡◌, ◌++◌, take}
use Rattle.dead_store.specs.Holding.{set_holds}
use Rattle.dead_store.specs.Without.{cells_left}
use Rattle.dead_store.proofs.left.group_left.Given as goal

abbrev pub invariant-loop-cell : goal.invariant-loop-cell
invariant-loop-cell l = l.left ≡ l.initial.left ++ cells_left (set_holds l.sites.keys)
    (take l.cell-index l.cells)
