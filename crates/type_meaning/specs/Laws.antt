-- Evaluation of a program that has types never stops for want of an alternative.
use Rattle.std.specs.Prelude.{◌≢◌, ℕ, List}
use Rattle.core_reader.specs.Readable.{IsReadable}
use Rattle.arity_check.specs.Program.{Program}
use Rattle.arity_check.specs.Normal.{IsNormalForm}
use Rattle.core_types.specs.Source.{Source, erased}
use Rattle.core_types.specs.Rules.{IsUnbroken}
use Rattle.core_types.specs.Typing.{Substitution, Solves, constraints, integers}
use Rattle.core_meaning.specs.Printing.{printed, Unaccepted}
use Rattle.type_meaning.specs.Judgement.{IsTyped}
use Rattle.type_meaning.specs.SourceTypes.{ConstructorHasType, FunctionHasType}

-- on no input and within no number of units
abbrev pub NeverStuck : Program → Type 0
NeverStuck p = (i : List ℕ) (n : ℕ) → (printed p i n).end ≢ Unaccepted

-- The normal form of a program that breaks no rule is well typed, where its constraints are solved.
abbrev pub SolvedAreWellTyped : Type 0
SolvedAreWellTyped =
    (s : Source) (p : Program) (σ : Substitution) → IsReadable (erased s) → IsUnbroken s
    → Solves σ (constraints s) → IsNormalForm (erased s) p
    → IsTyped (ConstructorHasType s) (FunctionHasType s σ) p (integers s)

-- and what is well typed is never stuck
abbrev pub WellTypedAreNeverStuck : Type 0
WellTypedAreNeverStuck =
    (s : Source) (p : Program) (σ : Substitution)
    → IsTyped (ConstructorHasType s) (FunctionHasType s σ) p (integers s) → NeverStuck p

-- So a program that breaks no rule and whose constraints have a solution never meets a value that
-- no alternative accepts.
abbrev pub TypedAreNeverStuck : Type 0
TypedAreNeverStuck =
    (s : Source) (p : Program) (σ : Substitution) → IsReadable (erased s) → IsUnbroken s
    → Solves σ (constraints s) → IsNormalForm (erased s) p → NeverStuck p
