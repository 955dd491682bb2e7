use Rattle.std.proofs.Common.{◌+◌, ◌-◌, length}
use Rattle.points_to.proofs.row_table.SetTable.grow.Given as goal

abbrev pub decreases-growing : goal.decreases-growing
decreases-growing l = l.at + 1 - length l.self.rows.items
