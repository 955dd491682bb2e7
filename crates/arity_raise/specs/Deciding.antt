-- What is decided of a parameter in its turn, and the new parameters in a row.
use Rattle.std.specs.Prelude.{ℕ, ◌≡◌, ◌+◌, ◌-◌, List, [], Option, Some, None}
use Rattle.grin_syntax.specs.declared.program.VarId.{VarId}
use Rattle.grin_syntax.specs.Fresh.{variables}
use Rattle.grin_syntax.specs.Tree.{Procedure, Program}
use Rattle.flow_system.specs.Solution.{Solution}
use Rattle.raise_theory.specs.Raisable.{Raisable}
use Rattle.raise_theory.specs.declared.raising.Raising.{Raising}
use Rattle.raise_theory.specs.Raising.{Decisions}
use Rattle.raise_theory.specs.Decided.{AllStay, FitsParameterLimit, Stays, new_params}

-- how many parameters there are at the next turn
abbrev pub parameter_count_after : ℕ → Option Raising → ℕ
parameter_count_after count None = count
parameter_count_after count (Some r) = count + r.fields - 1

module _ (A : Solution) (g : Program) where
  -- what is decided of the parameter x of q, where it has so many at its turn
  abbrev pub DecidedOf : Procedure → VarId → ℕ → Option Raising → Type 0
  DecidedOf q x count None = Stays A g q x count
  DecidedOf q x count (Some r) =
      Raisable A g q x.0 r.tag.0 r.fields × FitsParameterLimit count r.fields

-- these are the variables from one up to another
pub record AreConsecutive (xs : List VarId) (from to : ℕ) : Type 0 where
  pub count : ℕ
  pub are : xs ≡ variables from count
  pub next : to ≡ from + count

-- none of these parameters is raised
pub record NoneRaised (xs : List VarId) (ds : Decisions) : Type 0 where
  pub stay : AllStay xs ds
  pub no_new : new_params ds ≡ []
