use Rattle.std.proofs.Common.{◌≡◌, ℕ, take}
use Rattle.std.specs.List.{flat_map}
use Rattle.points_to.specs.ByTag.{field_items, items_of}
use Rattle.points_to.specs.Runs.{items_of_item_run}
use Rattle.points_to.proofs.by_tag.fields_by_tag.Given as goal

abbrev pub invariant-loop-run : goal.invariant-loop-run
invariant-loop-run l = (t : ℕ) → items_of l.fields t ≡ flat_map
    (λ r. field_items t (items_of_item_run r)) (take l.run-index l.run-items)
