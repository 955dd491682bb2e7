-- Where the variables of a procedure are used: the uses have positions, in the order of the text.
use Rattle.std.specs.Prelude.{◌≡◌, ℕ, ◌≤◌, ◌<◌, List, length, Some, slice_get, slice_index_or}
use Rattle.std.specs.List.Sorted.{IsSorted}
use Rattle.std.specs.Ordering.{nat_cmp, ordering_then}
use Rattle.std.specs.declared.cmp.Ordering.{Ordering}
use Rattle.variable_uses.specs.declared.uses.Use.{Use}
use Rattle.variable_uses.specs.declared.uses.Uses.{Uses}

-- the variable that is used at a position
abbrev pub used_at : (used : List ℕ) → (p : ℕ) → ℕ
used_at used p = slice_index_or used p 0

-- variable x is used at a position from `from` on and before `to`
abbrev pub IsUsedWithin : (used : List ℕ) → (x from to : ℕ) → Type 0
IsUsedWithin used x from to = (p : ℕ)
    × ((from ≤ p) × ((p < to) × ((p < length used) × (used_at used p ≡ x))))

-- by the variables, and where they are the same by the positions
abbrev pub use_order : Use → Use → Ordering
use_order u v = ordering_then (nat_cmp u.variable v.variable) (nat_cmp u.at v.at)

-- all uses, and no others, ascending
pub record AreUses (used : List ℕ) (u : Uses) : Type 0 where
  pub ascending : IsSorted use_order u.uses.items
  pub each : (p : ℕ) → p < length used
      → (i : ℕ) × (slice_get u.uses.items i ≡ Some (record { variable = used_at used p; at = p }))
  pub only : (i : ℕ) (v : Use) → slice_get u.uses.items i ≡ Some v
      → (v.at < length used) × (used_at used v.at ≡ v.variable)
