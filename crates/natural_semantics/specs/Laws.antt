-- What the relation says, and that the evaluator with a bound on its units says the same.
use Rattle.std.specs.Prelude.{◌≡◌, ◌≢◌, ◌↔◌, ◌⊎◌, ℕ, List}
use Rattle.arity_check.specs.Program.{Program}
use Rattle.arity_check.specs.Accepted.{IsValid}
use Rattle.core_meaning.specs.Heap.{Value, Env}
use Rattle.core_meaning.specs.Printing.{PrintingEnd, Done, Unaccepted, Going, printed}
use Rattle.core_meaning.specs.Told.{core_program_meaning}
use Rattle.headline.specs.Carries.{done, no_alternative, IsPrefixOf}
use Rattle.arity_check.specs.Program.{Term}
use Rattle.natural_semantics.specs.World.{World}
use Rattle.natural_semantics.specs.Natural.{Evaluates}
use Rattle.natural_semantics.specs.Stuck.{EvaluationSticks}
use Rattle.natural_semantics.specs.Prints.{ProgramPrints}
use Rattle.natural_semantics.specs.any.Natural.{Yields}
use Rattle.natural_semantics.specs.any.Prints as any
use Rattle.natural_semantics.specs.any.Laws.{PartsAgree}
use Rattle.natural_semantics.specs.ByName as by_name
use Rattle.natural_semantics.specs.CoreMoves.{moves_of, core_program}

-- one value and one heap at most; and where there is one, nothing is met that nothing accepts
pub record EvaluationIsFunction : Type 0 where
  pub one_value : (p : Program) (w w' w'' : World) (env : Env) (e : Term) (u v : Value)
      → Evaluates p w env e u w' → Evaluates p w env e v w'' → (u ≡ v) × (w' ≡ w'')
  pub never_both : (p : Program) (w w' : World) (env : Env) (e : Term) (v : Value)
      → Evaluates p w env e v w' → EvaluationSticks p w env e → ⊥

-- a program has one output and one end at most
abbrev pub PrintingIsFunction : Type 0
PrintingIsFunction =
    (p : Program) (i out out' : List ℕ) (end end' : PrintingEnd) → end ≢ Going → end' ≢ Going
    → ProgramPrints p i out end → ProgramPrints p i out' end' → (out ≡ out') × (end ≡ end')

-- all parts of what a program prints agree
abbrev pub PartsOfPrintingAgree : Type 0
PartsOfPrintingAgree = (p : Program) (i : List ℕ) → PartsAgree (ProgramPrints p i)

-- Within some number of units a valid program has this output and this end exactly where the
-- relation says so.
abbrev pub EndsAreThoseOfTheRelation : Type 0
EndsAreThoseOfTheRelation =
    (p : Program) → IsValid p → (i out : List ℕ) (end : PrintingEnd) → end ≢ Going
    → ((n : ℕ) × ((printed p i n).out ≡ out) × ((printed p i n).end ≡ end))
    ↔ ProgramPrints p i out end

-- What is put out within some number of units is derived, and what is derived is put out, or the
-- beginning of what is, within some number of units.
pub record OutputIsThatOfTheRelation : Type 0 where
  pub derived : (p : Program) → IsValid p → (i : List ℕ) (n : ℕ)
      → ProgramPrints p i (printed p i n).out Going
  pub met : (p : Program) → IsValid p → (i out : List ℕ) → ProgramPrints p i out Going
      → (n : ℕ) × IsPrefixOf out (printed p i n).out

-- a program goes on for every number of units exactly where the relation has no end of it
abbrev pub GoesOnWithoutDerivation : Type 0
GoesOnWithoutDerivation =
    (p : Program) → IsValid p → (i : List ℕ)
    → ((n : ℕ) → (printed p i n).end ≡ Going)
    ↔ ((out : List ℕ) (end : PrintingEnd) → end ≢ Going → ProgramPrints p i out end → ⊥)

-- What the evaluator tells of a valid program within some number of units is derived: all of its
-- output, where the list has ended or nothing accepts a value, and each beginning of it so far. And
-- whatever else is derived to have an end, what is derived begins it, and is the same where it has
-- an end.
pub record ToldIsDerived (p : Program) (i : List ℕ) : Type 0 where
  pub ended : (n : ℕ) → (core_program_meaning p i n).end ≡ done
      → ProgramPrints p i (core_program_meaning p i n).out Done
  pub unaccepted : (n : ℕ) → (core_program_meaning p i n).end ≡ no_alternative
      → ProgramPrints p i (core_program_meaning p i n).out Unaccepted
  pub begun : (out : List ℕ) (n : ℕ) → IsPrefixOf out (core_program_meaning p i n).out
      → ProgramPrints p i out Going
  pub no_other_end : (out all : List ℕ) (end end' : PrintingEnd) → ProgramPrints p i out end
      → end' ≢ Going → ProgramPrints p i all end'
      → IsPrefixOf out all × ((end ≡ Going) ⊎ ((out ≡ all) × (end ≡ end')))

abbrev pub WhatIsToldIsDerived : Type 0
WhatIsToldIsDerived = (p : Program) → IsValid p → (i : List ℕ) → ToldIsDerived p i

-- the relation of Core is that of any language, for the moves of Core's expressions
pub record RelationIsThatOfItsMoves : Type 0 where
  pub values : (p : Program) (w w' : World) (env : Env) (e : Term) (v : Value)
      → Evaluates p w env e v w' ↔ Yields (core_program p) w (moves_of p e env) v w'
  pub printing : (p : Program) (i out : List ℕ) (end : PrintingEnd)
      → ProgramPrints p i out end ↔ any.ProgramPrints (core_program p) i out end

-- Sharing changes nothing: a valid program puts out by need and by name the same, and ends the same.
abbrev pub SharingChangesNothing : Type 0
SharingChangesNothing =
    (p : Program) → IsValid p → (i out : List ℕ) (end : PrintingEnd)
    → ProgramPrints p i out end ↔ by_name.ProgramPrints p i out end
