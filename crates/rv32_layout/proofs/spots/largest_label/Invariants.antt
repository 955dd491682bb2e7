use Rattle.std.proofs.Common.{◌≡◌, ℕ, ◌<◌, ◌≤◌, Some, slice_get}
use Rattle.rv32_items.specs.declared.Item.TheVariants.{Label}
use Rattle.rv32_layout.proofs.spots.largest_label.Given as goal

abbrev pub invariant-loop-item : goal.invariant-loop-item
invariant-loop-item l = (n k : ℕ) → n < l.item-index → slice_get l.items n ≡ Some (Label k)
    → k ≤ l.largest
