use Rattle.std.proofs.Common.{◌≡◌, ◌++◌, take}
use Rattle.std.specs.List.{flat_map}
use Rattle.flow_system.specs.Shown.{tables_of}
use Rattle.points_to.specs.Held.{done_items}
use Rattle.points_to.specs.Rows.{row_items}
use Rattle.points_to.proofs.items.append_done_rows.Given as goal

abbrev pub invariant-loop-row : goal.invariant-loop-row
invariant-loop-row l = l.out ≡ l.initial.out ++ flat_map
    (λ r. done_items (tables_of l.system) (row_items r)) (take l.row-index l.rows)
