-- In a valid program no lookup fails.
use Rattle.std.specs.Prelude.{◌≡◌, ℕ, List}
use Rattle.arity_check.specs.Program.{Program}
use Rattle.arity_check.specs.Accepted.{IsValid}
use Rattle.core_meaning.specs.ByNeed as by_need
use Rattle.core_meaning.specs.Evaluation.{State, Answer}
use Rattle.core_meaning.specs.Printing.{printed}

-- Whichever name a local has that is not in scope, and whatever the answer is for a name past the
-- heap and for an unknown function, a valid program puts out the same.
abbrev pub NoLookupFails : Type 0
NoLookupFails =
    (p : Program) → IsValid p → (nowhere : ℕ) (lost : State → Answer) (i : List ℕ) (n : ℕ)
    → by_need.printed nowhere lost p i n ≡ printed p i n
