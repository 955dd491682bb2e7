use Rattle.std.proofs.Common.{◌≡◌, ◌++◌, take}
use Rattle.std.specs.List.{flat_map}
use Rattle.flow_system.specs.Shown.{tables_of}
use Rattle.points_to.specs.Runs.{items_of_item_run}
use Rattle.points_to.specs.Shift.{shifted_items}
use Rattle.points_to.proofs.nodes.append_shifted.Given as goal

abbrev pub invariant-loop-run : goal.invariant-loop-run
invariant-loop-run l = l.out ≡ l.initial.out ++ flat_map
    (λ r. flat_map (shifted_items (tables_of l.system) l.by) (items_of_item_run r))
    (take l.run-index l.run-items)
