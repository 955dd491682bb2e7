use Rattle.std.proofs.Common.{◌+◌, ◌-◌, length}
use Rattle.points_to.proofs.queue.Queue.put.Given as goal

abbrev pub decreases-growing : goal.decreases-growing
decreases-growing l = l.n + 1 - length l.self.waits.items
