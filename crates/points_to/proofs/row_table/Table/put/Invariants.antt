use Rattle.std.proofs.Common.{◌+◌, ◌-◌, length}
use Rattle.points_to.proofs.row_table.Table.put.Given as goal

abbrev pub decreases-growing : goal.decreases-growing
decreases-growing g l = l.at + 1 - length l.self.rows.items
