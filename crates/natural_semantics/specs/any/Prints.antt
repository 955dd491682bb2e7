-- Printing as a relation, for a program of any language.
use Rattle.std.specs.Prelude.{◌≡◌, ◌≢◌, ℕ, ℤ, suc, List, [], ◌∷◌, length}
use Rattle.core_meaning.specs.Heap.{ValueOf, Int, Con, Part, Call, Input, Waiting}
use Rattle.core_meaning.specs.Forcing.{PrintingEnd, Done, Unaccepted, Going}
use Rattle.numbers.specs.Numbers.{low_byte}
use Rattle.natural_semantics.specs.World.{WorldOf, extended, NoNumber}
use Rattle.natural_semantics.specs.any.Moves.{ProgramOf}
use Rattle.natural_semantics.specs.any.Natural.{Forces}
use Rattle.natural_semantics.specs.any.Stuck.{ForceSticks}

-- a value that is no list: no constructor without fields that is Nil, none with two that is Cons
pub data NoList {F : Type 0} (nil cons : ℕ) : ValueOf F → Type 0 where
  ANumber : {k : ℤ} → NoList nil cons (Int k)
  AFunction : {f : F} {xs : List ℕ} → NoList nil cons (Part f xs)
  NotNil : {d : ℕ} → d ≢ nil → NoList nil cons (Con d [])
  OneField : {d h : ℕ} → NoList nil cons (Con d (h ∷ []))
  NotCons : {d h t : ℕ} → d ≢ cons → NoList nil cons (Con d (h ∷ t ∷ []))
  ManyFields : {d h t u : ℕ} {xs : List ℕ} → NoList nil cons (Con d (h ∷ t ∷ u ∷ xs))

-- The list of this name puts out these bytes, and ends, or meets what nothing accepts. Or printing
-- goes on behind them: this can be said after each byte, and it says nothing of what comes.
pub data Prints {F : Type 0} (p : ProgramOf F) : WorldOf F → ℕ → List ℕ → PrintingEnd → Type 0 where
  Behind : {w : WorldOf F} {a : ℕ} → Prints p w a [] Going
  AtNil : {w w' : WorldOf F} {a : ℕ} → Forces p w a (Con p.nil []) w' → Prints p w a [] Done
  NoList' : {w w' : WorldOf F} {a : ℕ} {v : ValueOf F} → Forces p w a v w' → NoList p.nil p.cons v
      → Prints p w a [] Unaccepted
  ListSticks : {w : WorldOf F} {a : ℕ} → ForceSticks p w a → Prints p w a [] Unaccepted
  Puts : {w w' w'' : WorldOf F} {a h t : ℕ} {k : ℤ} {out : List ℕ} {end : PrintingEnd}
      → Forces p w a (Con p.cons (h ∷ t ∷ [])) w' → Forces p w' h (Int k) w''
      → Prints p w'' t out end → Prints p w a (low_byte k ∷ out) end
  NoByte' : {w w' w'' : WorldOf F} {a h t : ℕ} {v : ValueOf F}
      → Forces p w a (Con p.cons (h ∷ t ∷ [])) w' → Forces p w' h v w'' → NoNumber v
      → Prints p w a [] Unaccepted
  ByteSticks : {w w' : WorldOf F} {a h t : ℕ}
      → Forces p w a (Con p.cons (h ∷ t ∷ [])) w' → ForceSticks p w' h
      → Prints p w a [] Unaccepted

module _ {F : Type 0} (p : ProgramOf F) (i : List ℕ) where
  -- all of the input is left at the start
  abbrev pub first_world : WorldOf F
  first_world = record { heap = p.shared; input = i }

  -- The program puts out these bytes on this input, and ends so: its `main` is the list, or gives
  -- it for the list of the input's bytes.
  pub data ProgramPrints : List ℕ → PrintingEnd → Type 0 where
    OfItself : {out : List ℕ} {end : PrintingEnd} → p.arity p.main ≡ 0
        → Prints p first_world p.name out end → ProgramPrints out end
    OfInput : {out : List ℕ} {end : PrintingEnd} → p.arity p.main ≢ 0
        → Prints p (extended first_world
        (Waiting Input ∷ Waiting (Call p.main (length p.shared ∷ [])) ∷ []))
        (suc (length p.shared)) out end → ProgramPrints out end
