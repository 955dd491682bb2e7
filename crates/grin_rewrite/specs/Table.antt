-- What is known of the variables at a place, and a table of it.
use Rattle.std.specs.Prelude.{ℕ, ◌≡◌, cond, nat_eq, List, [], ◌∷◌, ◌++◌, Option, Some, None, get_or, refl}
use Rattle.std.specs.Coded.{Coded, code_by, coded×, coded_ℕ, coded_option, coded_list}
use Rattle.grin_syntax.specs.declared.program.VarId.{VarId}
use Rattle.grin_rewrite.specs.declared.fact_table.Fact.{Fact}

abbrev pub Facts : Type 0 → Type 0
Facts T = ℕ → Option T

abbrev pub nothing_known : {T : Type 0} → Facts T
nothing_known x = None

-- a variable more of which something is known
abbrev pub note : {T : Type 0} → VarId → T → Facts T → Facts T
note x k facts = λ y. cond (nat_eq y x.0) (Some k) (facts y)

-- what a list of facts says, where the last one counts
abbrev pub extended_by_facts : {T : Type 0} → Facts T → List (Fact T) → Facts T
extended_by_facts facts [] = facts
extended_by_facts facts (f ∷ fs) = extended_by_facts (note f.var f.known facts) fs

abbrev pub facts_of : {T : Type 0} → List (Fact T) → Facts T
facts_of fs = extended_by_facts nothing_known fs

-- each fact has what was known of its variable before
abbrev pub PreviousFactsAreSaved : {T : Type 0} → Facts T → List (Fact T) → Type 0
PreviousFactsAreSaved facts [] = Unit {0}
PreviousFactsAreSaved facts (f ∷ fs) =
    (f.before ≡ facts f.var.0) × PreviousFactsAreSaved (note f.var f.known facts) fs

-- entry x is what the facts say of variable x
pub record TableMatchesFacts {T : Type 0} (fs : List (Fact T))
    (table : List (Option T)) : Type 0 where
  pub by : (x : ℕ) → get_or table x None ≡ facts_of fs x
  pub before : PreviousFactsAreSaved nothing_known fs

-- facts were added
pub record AppendsFacts {T : Type 0} (old new : List (Fact T)) : Type 0 where
  pub more : List (Fact T)
  pub is : new ≡ old ++ more

-- a fact is stored as its fields
abbrev pub facts_code : {T : Type 0} → Coded T → Coded (List (Fact T))
facts_code {T} c =
    coded_list (code_by (ℕ × (T × Option T)) (coded× coded_ℕ (coded× c (coded_option c)))
    (λ f. (f.var.0, (f.known, f.before)))
    (λ p. record { var = record { 0 = p.0 }; known = p.1.0; before = p.1.1 }) (λ _. refl))
