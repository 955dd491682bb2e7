-- What is decided of the parameter at a place.
use Rattle.std.specs.Prelude.{ℕ, Option, Some, None, slice_get}
use Rattle.raise_theory.specs.declared.raising.Raising.{Raising}
use Rattle.raise_theory.specs.Raising.{Decisions}

abbrev pub decision_or_stays : Option (Option Raising) → Option Raising
decision_or_stays None = None
decision_or_stays (Some d) = d

-- past the end it stays
abbrev pub decision_at : Decisions → ℕ → Option Raising
decision_at ds i = decision_or_stays (slice_get ds i)
