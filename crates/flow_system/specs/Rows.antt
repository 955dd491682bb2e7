-- Sets by their numbers, and rows of readers, one for each set.
use Rattle.std.specs.Prelude.{◌≡◌, ◌<◌, ℕ, Bool, cond, List, [], ◌∷◌, ◌++◌, length, Option, Some, slice_get, ◌↔◌, All}
use Rattle.flow_system.specs.Inclusions.{Place, Inclusion}
use Rattle.flow_system.specs.Readers.{sets, readers_from, is_one_of}

-- a table gives each set its number, and no other place one
pub record Numbers (table : Place → Option ℕ) (ps : List Place) : Type 0 where
  pub number : (q : Place) (n : ℕ) → (table q ≡ Some n) ↔ (slice_get ps n ≡ Some q)

-- for each set the row that is its own
pub record RowBelongsToSet (ps : List Place) (of : Place → List ℕ) (rows : List (List ℕ))
    : Type 0 where
  pub as_many : length rows ≡ length ps
  pub row : (n : ℕ) (q : Place) → slice_get ps n ≡ Some q → slice_get rows n ≡ Some (of q)

-- the sets are those that the inclusions name, and the rows have their readers
pub record IsReaderIndex (cs : List Inclusion) (ps : List Place) (rows : List (List ℕ))
    : Type 0 where
  pub listed : ps ≡ sets cs
  pub noted : RowBelongsToSet ps (λ q. readers_from 0 q cs) rows

-- numbers of earlier inclusions
abbrev pub AreEarlierInclusions : ℕ → List ℕ → Type 0
AreEarlierInclusions n row = All (λ m. m < n) row

-- a row of earlier readers, at whose end the number n may stand, ends with n
pub record AppendsReader (n : ℕ) (old new : List ℕ) : Type 0 where
  pub ends : (row : List ℕ) (already : Bool) → AreEarlierInclusions n row
      → old ≡ row ++ cond already (n ∷ []) [] → new ≡ row ++ n ∷ []

-- the readers so far, and the inclusion n where it reads one of these sets
abbrev pub with_reader : (Place → List ℕ) → ℕ → List Place → Place → List ℕ
with_reader of n qs q = of q ++ cond (is_one_of qs q) (n ∷ []) []

-- the inclusion n, of which the sets qs are noted, is noted as a reader of q
pub record RecordsReader (ps : List Place) (n : ℕ) (q : Place) (old new : List (List ℕ))
    : Type 0 where
  pub as_many : length new ≡ length old
  pub notes : (of : Place → List ℕ) (qs : List Place)
      → ((p : Place) → AreEarlierInclusions n (of p))
      → RowBelongsToSet ps (with_reader of n qs) old
      → RowBelongsToSet ps (with_reader of n (qs ++ q ∷ [])) new

-- the inclusion n is noted as a reader of these sets
pub record RecordsReaderOfAll (ps : List Place) (n : ℕ) (qs : List Place) (old new : List (List ℕ))
    : Type 0 where
  pub as_many : length new ≡ length old
  pub notes : (of : Place → List ℕ) → ((p : Place) → AreEarlierInclusions n (of p))
      → RowBelongsToSet ps of old
      → RowBelongsToSet ps (with_reader of n qs) new
