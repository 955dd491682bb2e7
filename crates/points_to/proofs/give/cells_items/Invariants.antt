use Rattle.std.proofs.Common.{◌≡◌, ◌++◌, take}
use Rattle.std.specs.List.{flat_map}
use Rattle.points_to.specs.Known.{held}
use Rattle.points_to.specs.Held.{cell_items}
use Rattle.points_to.proofs.give.cells_items.Given as goal

abbrev pub invariant-loop-word : goal.invariant-loop-word
invariant-loop-word l = l.out ≡ l.initial.out ++ flat_map (cell_items (held l.facts))
    (take l.word-index l.words)
