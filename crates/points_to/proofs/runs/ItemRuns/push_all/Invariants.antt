use Rattle.std.proofs.Common.{◌≡◌, ◌++◌, take}
use Rattle.std.specs.List.{flat_map}
use Rattle.points_to.specs.Runs.{items_of_item_run}
use Rattle.points_to.proofs.runs.ItemRuns.push_all.Given as goal

abbrev pub invariant-loop-run : goal.invariant-loop-run
invariant-loop-run l = l.self ≡ l.initial.self ++ flat_map items_of_item_run
    (take l.run-index l.run-items)
