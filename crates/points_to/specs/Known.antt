-- The facts that are known, as the sets that hold them.
use Rattle.std.specs.Prelude.{◌≡◌, ℕ, ◌⊎◌, List, [], Option, Some, None, slice_get}
use Rattle.flow_system.specs.declared.fact.Place.{Place}
use Rattle.flow_system.specs.declared.fact.Place.TheVariants.{Site, Var, Result}
use Rattle.flow_system.specs.declared.fact.Part.{Part}
use Rattle.flow_system.specs.declared.fact.Element.{Element}
use Rattle.flow_system.specs.Solution.{Solution, At}
use Rattle.points_to.specs.declared.facts.Item.{Item}
use Rattle.points_to.specs.declared.facts.Fact.{Fact}
use Rattle.points_to.specs.declared.facts.Facts.{Facts}
use Rattle.points_to.specs.Held.{In, item, words_in_part}
use Rattle.points_to.specs.Asked.{fact}

abbrev pub items_in : Option (List Item) → List Item
items_in None = []
items_in (Some s) = s

-- the items of the set with this number, none where there is no such set
abbrev pub items_at : List (List Item) → ℕ → List Item
items_at sets n = items_in (slice_get sets n)

-- the items at a place
abbrev pub held : Facts → Place → List Item
held f (Site n) = items_at f.sites.items n
held f (Var n) = items_at f.vars.items n
held f (Result n) = items_at f.results.items n

-- items are put into the list with number n
pub record PutsItems (old new : ℕ → List Item) (n : ℕ) (is : List Item) : Type 0 where
  pub kept : (m : ℕ) (j : Item) → In j (old m) → In j (new m)
  pub put : (j : Item) → In j is → In j (new n)
  pub only : (m : ℕ) (j : Item) → In j (new m) → In j (old m) ⊎ ((m ≡ n) × In j is)

-- what is known grows by these facts and no others
pub record GrowsByFacts (old new : Place → List Item) (fs : List Fact) : Type 0 where
  pub kept : (q : Place) (j : Item) → In j (old q) → In j (new q)
  pub put : (f : Fact) → In f fs → In f.item (new f.place)
  pub only : (q : Place) (j : Item) → In j (new q) → In j (old q) ⊎ In (fact q j) fs

-- the solution that has just what is known
abbrev pub solution_of : (Place → List Item) → Solution
solution_of H q part = words_in_part part (H q)

-- a solution has all that is known
abbrev pub ContainsAllFacts : (Place → List Item) → Solution → Type 0
ContainsAllFacts H B =
    (q : Place) (part : Part) (u : Element) → In (item part u) (H q) → At B q part u
