-- Printing as a relation: the elements of a list are put out one by one, each as its low byte.
use Rattle.std.specs.Prelude.{◌≡◌, ◌≢◌, ℕ, ℤ, suc, List, [], ◌∷◌, length}
use Rattle.arity_check.specs.Program.{Program}
use Rattle.core_meaning.specs.Heap.{Value, Int, Con, Call, Input, Waiting}
use Rattle.core_meaning.specs.Evaluation.{nil, cons, global, globals, params}
use Rattle.core_meaning.specs.Printing.{PrintingEnd, Done, Unaccepted, Going}
use Rattle.numbers.specs.Numbers.{low_byte}
use Rattle.natural_semantics.specs.World.{World, extended, NoNumber}
use Rattle.natural_semantics.specs.Natural.{Forces}
use Rattle.natural_semantics.specs.Stuck.{ForceSticks}
use Rattle.natural_semantics.specs.any.Prints.{NoList}

-- The list of this name puts out these bytes, and ends, or meets what nothing accepts. Or printing
-- goes on behind them: this can be said after each byte, and it says nothing of what comes.
pub data Prints (p : Program) : World → ℕ → List ℕ → PrintingEnd → Type 0 where
  Behind : {w : World} {a : ℕ} → Prints p w a [] Going
  AtNil : {w w' : World} {a : ℕ} → Forces p w a (Con (nil p) []) w' → Prints p w a [] Done
  NoList' : {w w' : World} {a : ℕ} {v : Value} → Forces p w a v w' → NoList (nil p) (cons p) v
      → Prints p w a [] Unaccepted
  ListSticks : {w : World} {a : ℕ} → ForceSticks p w a → Prints p w a [] Unaccepted
  Puts : {w w' w'' : World} {a h t : ℕ} {k : ℤ} {out : List ℕ} {end : PrintingEnd}
      → Forces p w a (Con (cons p) (h ∷ t ∷ [])) w' → Forces p w' h (Int k) w''
      → Prints p w'' t out end → Prints p w a (low_byte k ∷ out) end
  NoByte' : {w w' w'' : World} {a h t : ℕ} {v : Value}
      → Forces p w a (Con (cons p) (h ∷ t ∷ [])) w' → Forces p w' h v w'' → NoNumber v
      → Prints p w a [] Unaccepted
  ByteSticks : {w w' : World} {a h t : ℕ}
      → Forces p w a (Con (cons p) (h ∷ t ∷ [])) w' → ForceSticks p w' h
      → Prints p w a [] Unaccepted

-- the heap at the start has the functions without parameters, and all of the input is left
abbrev pub first_world : Program → List ℕ → World
first_world p i = record { heap = globals p p.funs 0; input = i }

-- The program puts out these bytes on this input, and ends so: its `main` is the list, or gives it
-- for the list of the input's bytes.
pub data ProgramPrints (p : Program) (i : List ℕ) : List ℕ → PrintingEnd → Type 0 where
  OfItself : {out : List ℕ} {end : PrintingEnd} → params p p.main ≡ 0
      → Prints p (first_world p i) (global p p.main) out end → ProgramPrints p i out end
  OfInput : {out : List ℕ} {end : PrintingEnd} (at : ℕ) → params p p.main ≢ 0
      → at ≡ length (globals p p.funs 0)
      → Prints p (extended (first_world p i) (Waiting Input ∷ Waiting (Call p.main (at ∷ [])) ∷ []))
      (suc at) out end → ProgramPrints p i out end
