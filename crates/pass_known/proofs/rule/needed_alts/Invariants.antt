use Rattle.pass_ground.specs.OpenUpdates.{tag_variable}
use Rattle.pass_known.specs.Needed.{tags_at, numbers_left}
use Rattle.pass_known.specs.Telling.{known_solution}
use Rattle.pass_known.proofs.Loops.{Chosen}
use Rattle.pass_known.proofs.rule.needed_alts.Given as goal

abbrev pub invariant-loop-alt : goal.invariant-loop-alt
invariant-loop-alt l = Chosen (tags_at l.told.count (known_solution l.told) (tag_variable l.v))
    (numbers_left l.left) l.made l.yielded
