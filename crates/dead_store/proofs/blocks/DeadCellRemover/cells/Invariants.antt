use Rattle.std.proofs.Common.{◌≡◌}
use Rattle.dead_store.specs.Holding.{set_holds}
use Rattle.dead_store.specs.Without.{kept_cells}
use Rattle.dead_store.proofs.blocks.DeadCellRemover.cells.Given as goal

abbrev pub invariant-loop-cell : goal.invariant-loop-cell
invariant-loop-cell l = l.made ≡ kept_cells (set_holds l.self.sites.now.keys)
    (set_holds l.self.gone.now.keys) l.yielded
