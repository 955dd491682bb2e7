use Rattle.std.proofs.Common.{take}
use Rattle.std.specs.List.{flat_map}
use Rattle.points_to.specs.Runs.{facts_of_run}
use Rattle.points_to.proofs.Solved.{Added}
use Rattle.points_to.proofs.rounds.add_all.Given as goal

abbrev pub invariant-loop-run : goal.invariant-loop-run
invariant-loop-run l = Added l.initial.facts l.facts l.added
    (flat_map facts_of_run (take l.run-index l.run-items))
