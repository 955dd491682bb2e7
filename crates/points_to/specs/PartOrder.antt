-- Rows in the order of their parts.
use Rattle.std.specs.Prelude.{◌≡◌, ℕ, ◌<◌, ◌≤◌, Bool, true, false, cond, nat_eq, nat_lt, IsTrue, List, map, length, get_or, Result, MatchResult}
use Rattle.flow_system.specs.declared.fact.Part.{Part}
use Rattle.flow_system.specs.declared.fact.Part.TheVariants.{Tags as tags, Field as field, Word as word}
use Rattle.points_to.specs.declared.items.Row.{Row}

-- whether a part stands before another: the tags first, then the fields, then the words
abbrev pub before : Part → Part → Bool
before tags tags = false
before tags (field u j) = true
before tags (word j) = true
before (field t i) tags = false
before (field t i) (field u j) = cond (nat_eq t u) (nat_lt i j) (nat_lt t u)
before (field t i) (word j) = true
before (word i) tags = false
before (word i) (field u j) = false
before (word i) (word j) = nat_lt i j

-- the part of the row at a place
abbrev pub part_at : List Row → ℕ → Part
part_at rows k = get_or (map (λ r. r.part) rows) k tags

-- rows stand in the order of their parts, and no two have the same part
abbrev pub Ascending : List Row → Type 0
Ascending rows =
    (i j : ℕ) → i < j → j < length rows → IsTrue (before (part_at rows i) (part_at rows j))

-- all rows before a place are of lower parts, and none from another place on is
pub record IsPlace (rows : List Row) (q : Part) (low high : ℕ) : Type 0 where
  pub inside : low ≤ high
  pub bound : high ≤ length rows
  pub lower : (i : ℕ) → i < low → IsTrue (before (part_at rows i) q)
  pub others : (i : ℕ) → high ≤ i → i < length rows → before (part_at rows i) q ≡ false

-- the row of the part stands at this place
pub record StandsAt (rows : List Row) (q : Part) (k : ℕ) : Type 0 where
  pub within : k < length rows
  pub part : part_at rows k ≡ q

-- no row is of the part, and one that is would go to this place
pub record GoesTo (rows : List Row) (q : Part) (k : ℕ) : Type 0 where
  pub bound : k ≤ length rows
  pub lower : (i : ℕ) → i < k → IsTrue (before (part_at rows i) q)
  pub higher : (i : ℕ) → k ≤ i → i < length rows → IsTrue (before q (part_at rows i))

abbrev pub Finds : List Row → Part → Result ℕ ℕ → Type 0
Finds rows q r = MatchResult r (StandsAt rows q) (GoesTo rows q)
