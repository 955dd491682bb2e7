use Rattle.std.proofs.Common.{◌≡◌, ◌++◌, take}
use Rattle.std.specs.List.{flat_map}
use Rattle.points_to.specs.Asked.{facts_at}
use Rattle.points_to.specs.Runs.{items_of_item_run}
use Rattle.points_to.proofs.targets.facts_at.Given as goal

abbrev pub invariant-loop-run : goal.invariant-loop-run
invariant-loop-run l = l.out ≡ l.initial.out ++ flat_map
    (λ r. facts_at l.place (items_of_item_run r)) (take l.run-index l.run-items)
