use Rattle.std.proofs.Common.{◌≡◌, ◌++◌, take}
use Rattle.std.specs.List.{flat_map}
use Rattle.points_to.specs.Held.{words_in_part}
use Rattle.points_to.specs.Runs.{items_of_item_run}
use Rattle.points_to.proofs.nodes.words_in_part.Given as goal

abbrev pub invariant-loop-run : goal.invariant-loop-run
invariant-loop-run l = l.out ≡ l.initial.out ++ flat_map
    (λ r. words_in_part l.part (items_of_item_run r)) (take l.run-index l.run-items)
