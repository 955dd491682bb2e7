use Rattle.grin_opt.specs.Staying.{place}
use Rattle.grin_opt.proofs.schedule.+optimise.Given as goal

abbrev pub decreases-optimise : goal.decreases-optimise
decreases-optimise c = place c.upto
