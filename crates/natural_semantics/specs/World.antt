-- What an evaluation by need begins and ends in, whatever the functions of the language are.
use Rattle.std.specs.Prelude.{ℕ, ℤ, pos, List, [], ◌∷◌, ◌++◌, slice_set, slice_index_or}
use Rattle.core_meaning.specs.Heap.{ValueOf, Int, Con, Part, Input, Known, Waiting, HeapOf, Env}

-- the heap, and the bytes of the input that are left
pub record WorldOf (F : Type 0) : Type 0 where
  pub heap : HeapOf F
  pub input : List ℕ

-- that of Core, whose functions are numbers
abbrev pub World : Type 0
World = WorldOf ℕ

module _ {F : Type 0} where
  -- with more bindings; with a value for a name
  abbrev pub extended : WorldOf F → HeapOf F → WorldOf F
  extended w more = record w { heap = w.heap ++ more }

  abbrev pub updated : WorldOf F → ℕ → ValueOf F → WorldOf F
  updated w a v = record w { heap = slice_set w.heap a (Known v) }

  -- the first byte that is left as a cell, and the others as one that waits
  abbrev pub after_byte : WorldOf F → ℕ → List ℕ → WorldOf F
  after_byte w k rest =
      record { heap = w.heap ++ Known (Int (pos k)) ∷ Waiting Input ∷ []; input = rest }

-- Where a function is entered, its parameters have these names. In a valid program no other local is
-- asked for (`no_lookup_fails`).
abbrev pub parameters : List ℕ → Env
parameters names x = slice_index_or names x 0

-- a value that is no number; one that takes no name
pub data NoNumber {F : Type 0} : ValueOf F → Type 0 where
  AConstructor : {c : ℕ} {xs : List ℕ} → NoNumber (Con c xs)
  AFunction : {f : F} {xs : List ℕ} → NoNumber (Part f xs)

pub data NoFunction {F : Type 0} : ValueOf F → Type 0 where
  ANumber : {k : ℤ} → NoFunction (Int k)
  AConstructor' : {c : ℕ} {xs : List ℕ} → NoFunction (Con c xs)
