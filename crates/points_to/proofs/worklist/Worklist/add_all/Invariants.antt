use Rattle.std.proofs.Common.{take}
use Rattle.std.specs.List.{flat_map}
use Rattle.points_to.specs.Runs.{facts_of_run}
use Rattle.points_to.proofs.UntilNoneWaits.{AddedTo}
use Rattle.points_to.proofs.worklist.Worklist.add_all.Given as goal

abbrev pub invariant-loop-run : goal.invariant-loop-run
invariant-loop-run l = AddedTo l.initial.self l.self l.added
    (flat_map facts_of_run (take l.run-index l.run-items))
