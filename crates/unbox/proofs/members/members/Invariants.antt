use Rattle.std.proofs.Common.{◌+◌, cond}
use Rattle.unbox.specs.Rounds.{count_members}
use Rattle.unbox.proofs.Sweeping.{Rounds}
use Rattle.unbox.proofs.members.members.Given as goal

abbrev pub invariant-rounds : goal.invariant-rounds
invariant-rounds l = Rounds l.count l.ties l.members.inside l.more

abbrev pub decreases-rounds : goal.decreases-rounds
decreases-rounds l = count_members l.members.inside + cond l.more 1 0
