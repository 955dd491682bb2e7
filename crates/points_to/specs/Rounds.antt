-- What a round of all inclusions does.
use Rattle.std.specs.Prelude.{◌≡◌, ◌<◌, ◌≤◌, ℕ, Bool, true, List, Some, slice_get}
use Rattle.flow_system.specs.declared.fact.Place.{Place}
use Rattle.flow_system.specs.Inclusions.{Inclusion}
use Rattle.flow_system.specs.Tables.{Tables}
use Rattle.flow_system.specs.Solution.{Solution, Solves}
use Rattle.points_to.specs.declared.facts.Item.{Item}
use Rattle.points_to.specs.declared.facts.Fact.{Fact}
use Rattle.points_to.specs.declared.facts.Facts.{Facts}
use Rattle.points_to.specs.Held.{In}
use Rattle.points_to.specs.Asked.{facts_demanded}
use Rattle.points_to.specs.Known.{ContainsAllFacts}

-- facts that are known
abbrev pub AllFactsKnown : (Place → List Item) → List Fact → Type 0
AllFactsKnown H fs = (f : Fact) → In f fs → In f.item (H f.place)

module _ (p : Tables) (cs : List Inclusion) where
  -- every solution has what is known
  pub record InEvery (H : Place → List Item) : Type 0 where
    pub by : (B : Solution) → Solves p cs B → ContainsAllFacts H B

  -- all that the inclusion asks for is known
  abbrev pub Satisfied : (Place → List Item) → Inclusion → Type 0
  Satisfied H c = AllFactsKnown H (facts_demanded p H c)

  pub record AllSatisfied (H : Place → List Item) : Type 0 where
    pub by : (i : ℕ) (c : Inclusion) → slice_get cs i ≡ Some c → Satisfied H c

-- the count of facts does not fall, and rises where one was added
pub record CountsAddedFacts (old new : Facts) (added : Bool) : Type 0 where
  pub no_less : old.count ≤ new.count
  pub more : added ≡ true → old.count < new.count
