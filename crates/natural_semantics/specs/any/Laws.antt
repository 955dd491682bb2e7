-- What the relation says of a program of any language, and that an evaluator with a bound on its
-- units says the same.
use Rattle.std.specs.Prelude.{◌≡◌, ◌≢◌, ◌↔◌, ◌⊎◌, ℕ, List}
use Rattle.core_meaning.specs.Heap.{ValueOf}
use Rattle.core_meaning.specs.Forcing.{PrintingEnd, Going, PrintedRun}
use Rattle.headline.specs.Carries.{IsPrefixOf}
use Rattle.natural_semantics.specs.World.{WorldOf}
use Rattle.natural_semantics.specs.any.Moves.{Moves, ProgramOf}
use Rattle.natural_semantics.specs.any.Natural.{Yields}
use Rattle.natural_semantics.specs.any.Stuck.{YieldSticks}
use Rattle.natural_semantics.specs.any.Prints.{ProgramPrints}

-- All that is derived to be printed begins one list: a beginning of what is derived is derived, what
-- is derived so far begins what is derived with an end, and of two parts one begins the other.
pub record PartsAgree (Derives : List ℕ → PrintingEnd → Type 0) : Type 0 where
  pub shorter : (part all : List ℕ) (end : PrintingEnd) → IsPrefixOf part all → Derives all end
      → Derives part Going
  pub ended : (part all : List ℕ) (end : PrintingEnd) → end ≢ Going → Derives part Going
      → Derives all end → IsPrefixOf part all
  pub ordered : (part part' : List ℕ) → Derives part Going → Derives part' Going
      → IsPrefixOf part part' ⊎ IsPrefixOf part' part

module _ {F : Type 0} (p : ProgramOf F) where
  -- The relation says of a program what its runs within a number of units do: moves have one value
  -- and one heap at most, and where they have one, nothing is met that nothing accepts; the program
  -- has one output and one end at most, all parts of its output agree, it has them exactly where
  -- some run does, what a run puts out is derived and what is derived is put out, and it has no end
  -- exactly where every run goes on.
  pub record SaysWhatRunsDo (run : List ℕ → ℕ → PrintedRun) : Type 0 where
    pub one_value : (w w' w'' : WorldOf F) (m : Moves F) (u v : ValueOf F)
        → Yields p w m u w' → Yields p w m v w'' → (u ≡ v) × (w' ≡ w'')
    pub never_both : (w w' : WorldOf F) (m : Moves F) (v : ValueOf F)
        → Yields p w m v w' → YieldSticks p w m → ⊥
    pub one_output : (i out out' : List ℕ) (end end' : PrintingEnd) → end ≢ Going → end' ≢ Going
        → ProgramPrints p i out end → ProgramPrints p i out' end' → (out ≡ out') × (end ≡ end')
    pub parts : (i : List ℕ) → PartsAgree (ProgramPrints p i)
    pub ends : (i out : List ℕ) (end : PrintingEnd) → end ≢ Going
        → ((n : ℕ) × ((run i n).out ≡ out) × ((run i n).end ≡ end)) ↔ ProgramPrints p i out end
    pub derived : (i : List ℕ) (n : ℕ) → ProgramPrints p i (run i n).out Going
    pub met : (i out : List ℕ) → ProgramPrints p i out Going
        → (n : ℕ) × IsPrefixOf out (run i n).out
    pub goes_on : (i : List ℕ)
        → ((n : ℕ) → (run i n).end ≡ Going)
        ↔ ((out : List ℕ) (end : PrintingEnd) → end ≢ Going → ProgramPrints p i out end → ⊥)
