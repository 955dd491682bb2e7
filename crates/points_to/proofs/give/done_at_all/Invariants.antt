use Rattle.std.proofs.Common.{◌≡◌, ◌++◌, take}
use Rattle.std.specs.List.{flat_map}
use Rattle.flow_system.specs.Shown.{tables_of}
use Rattle.points_to.specs.Known.{held}
use Rattle.points_to.specs.Held.{done_items, cell_items}
use Rattle.points_to.proofs.give.done_at_all.Given as goal

abbrev pub invariant-loop-word : goal.invariant-loop-word
invariant-loop-word l = l.out ≡ l.initial.out ++ flat_map
    (λ w. done_items (tables_of l.system) (cell_items (held l.facts) w)) (take l.word-index l.words)
