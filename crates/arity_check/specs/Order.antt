-- The order in which broken rules are named, and which of them count.
use Rattle.std.specs.Prelude.{◌≡◌, ℕ, ◌<◌, ◌≤◌, ◌⊎◌, ◌==◌, nat_le, Bool, true, ◌&&◌, ◌||◌, Option, Some, None, if◌then◌else◌}
use Rattle.arity_check.specs.declared.order.Order.{Order}
use Rattle.arity_check.specs.declared.order.Order.TheVariants.{Check, Reserved, Doubles, Unknown}

-- rules 31 to 35 by number; then those with a place by the place, and at one place by number; then
-- 19, 20 and 21
abbrev pub rank : ℕ → ℕ → ℕ × ℕ × ℕ
rank k at =
    if nat_le 31 k then (0, k, at)
    else if nat_le 19 k && nat_le k 21 then (2, k, at)
    else (1, at, k)

-- one is not after the other
abbrev pub IsBefore : ℕ × ℕ × ℕ → ℕ × ℕ × ℕ → Type 0
IsBefore a b = (a.0 < b.0) ⊎ ((a.0 ≡ b.0) × ((a.1 < b.1) ⊎ ((a.1 ≡ b.1) × (a.2 ≤ b.2))))

-- ---- orders in which not every broken rule counts: of a rule and a number, the rank, where it has
-- one

abbrev pub Ranks : Type 0
Ranks = ℕ → ℕ → Option (ℕ × ℕ × ℕ)

abbrev pub HasRank : Option (ℕ × ℕ × ℕ) → Type 0
HasRank None = ⊥
HasRank (Some a) = Unit {0}

-- one has a rank, and where the other has one it is not before that
abbrev pub IsBeforeIfRanked : Option (ℕ × ℕ × ℕ) → Option (ℕ × ℕ × ℕ) → Type 0
IsBeforeIfRanked None b = ⊥
IsBeforeIfRanked (Some a) None = Unit {0}
IsBeforeIfRanked (Some a) (Some b) = IsBefore a b

-- every rule counts
abbrev pub all_ranked : Ranks
all_ranked k at = Some (rank k at)

-- the rules that count in an order: all, the names of primitives and `Int`, the second declarations
-- of a name, or the names that are not bound
abbrev pub counts : Order → ℕ → Bool
counts Check k = true
counts Reserved k = k == 22
counts Doubles k = (k == 11) || (k == 12)
counts Unknown k = k == 14

abbrev pub ranks_of_order : Order → Ranks
ranks_of_order order k at = if counts order k then Some (rank k at) else None
