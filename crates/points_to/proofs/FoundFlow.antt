-- What is found, by what a solution is made of.
use Rattle.std.proofs.Common.{◌≡◌, ◌++◌, ℕ, List, [], Option, refl, ap, ◌∙◌}
use Rattle.std.specs.Prelude.{Result as Answer, Ok, Err, IfOk}
use Rattle.flow_system.specs.declared.fact.Place.{Place}
use Rattle.flow_system.specs.declared.fact.Place.TheVariants.{Site, Var, Result}
use Rattle.flow_system.specs.Tables.{Tables}
use Rattle.flow_system.specs.Solution.{Solution}
use Rattle.grin_syntax.specs.declared.program.Val.{Val}
use Rattle.points_to.specs.declared.facts.Facts.{Facts}
use Rattle.points_to.specs.declared.flow.Flow.{Flow}
use Rattle.points_to.specs.declared.origin.ProgramTables.{ProgramTables}
use Rattle.points_to.specs.declared.stored.Stored.{Stored}
use Rattle.points_to.specs.Found.{found}
use Rattle.points_to.specs.Known.{held, solution_of}
use Rattle.points_to.specs.Stored.{tables_in, stored_at, stored_nodes, whole}
use Rattle.seq.proofs.Lists.{append_nil}

-- where no value is stored, the facts are all that is known
pub nothing_stored : (p : Tables) (vs : List (Option Val)) (f : Facts) (s : Stored)
    → ((n : ℕ) → stored_at s n ≡ []) → whole p vs f s ≡ held f
nothing_stored p vs f s none = λ i q. at q i
  where
    at : (q : Place) → whole p vs f s q ≡ held f q
    at (Site n) = ap (λ ns. held f (Site n) ++ stored_nodes p vs (held f) ns) (none n) ∙ append_nil
        (held f (Site n))
    at (Var n) = refl
    at (Result n) = refl

-- of a solution that is made of facts, stored values and what they refer to
pub found_of : {E : Type 0} (r : Answer Flow E) (f : Facts) (s : Stored) (o : ProgramTables)
    (S : Solution) → IfOk r (λ w. w.facts ≡ f) → IfOk r (λ w. w.stored ≡ s)
    → IfOk r (λ w. w.origin ≡ o)
    → solution_of (whole (tables_in o) o.values f s) ≡ S → IfOk r (λ w. found w ≡ S)
found_of (Ok w) f s o S a b c e =
    ap (λ f. solution_of (whole (tables_in w.origin) w.origin.values f w.stored)) a ∙ ap
    (λ s. solution_of (whole (tables_in w.origin) w.origin.values f s)) b
    ∙ ap (λ o. solution_of (whole (tables_in o) o.values f s)) c ∙ e
found_of (Err x) f s o S a b c e = tt
