-- Words that are fetched, and variables whose words are all among them, in every solution.
use Rattle.std.specs.Prelude.{◌≡◌, ℕ, suc, ◌<◌, List, [], length, Option, Some, None, slice_get}
use Rattle.std.specs.List.{flat_map}
use Rattle.grin_syntax.specs.declared.program.Word.{Word}
use Rattle.grin_syntax.specs.declared.program.Val.{Val}
use Rattle.grin_syntax.specs.declared.program.Val.TheVariants.{NodeVar, Node as NodeVal, Vector as VectorVal, One as OneVal}
use Rattle.flow_system.specs.declared.fact.Element.{Element}
use Rattle.flow_system.specs.declared.fact.Element.TheVariants.{Tag as tag}
use Rattle.flow_system.specs.declared.fact.Place.{Place}
use Rattle.flow_system.specs.declared.fact.Place.TheVariants.{Var}
use Rattle.flow_system.specs.declared.fact.Part.TheVariants.{Word as word}
use Rattle.flow_system.specs.Inclusions.{Inclusion}
use Rattle.flow_system.specs.Tables.{Tables}
use Rattle.flow_system.specs.Solution.{At, FetchGives, Solution, Solves}
use Rattle.points_to.specs.declared.copies.Copies.{Copies}
use Rattle.points_to.specs.declared.copies.Fetch.{Fetch}
use Rattle.points_to.specs.declared.copies.Fetched.{Fetched}
use Rattle.points_to.specs.declared.facts.Fact.{Fact}
use Rattle.points_to.specs.declared.facts.Item.{Item}
use Rattle.points_to.specs.declared.state.State.{State}
use Rattle.points_to.specs.Asked.{facts_at}
use Rattle.points_to.specs.Held.{In, in_part}
use Rattle.points_to.specs.Kept.{IsSound}
use Rattle.points_to.specs.Rows.{words_in}
use Rattle.points_to.specs.ValueWords.{elements_of}
use Rattle.seq.specs.Lists.{or_empty}

-- the fetch with a number, what is known of it, and where it goes
abbrev pub fetch_of : Option Fetched → Option Fetch
fetch_of None = None
fetch_of (Some d) = Some d.fetch

abbrev pub fetch_at : Copies → ℕ → Option Fetch
fetch_at c g = fetch_of (slice_get c.fetches.items g)

abbrev pub words_of : Option Fetched → List Element
words_of None = []
words_of (Some d) = words_in d.words

abbrev pub words_at : Copies → ℕ → List Element
words_at c g = words_of (slice_get c.fetches.items g)

abbrev pub targets_of : Option Fetched → List ℕ
targets_of None = []
targets_of (Some d) = d.targets

abbrev pub targets_at : Copies → ℕ → List ℕ
targets_at c g = targets_of (slice_get c.fetches.items g)

-- the fetches that a variable is linked to
abbrev pub links_at : Copies → ℕ → List ℕ
links_at c x = or_empty (slice_get c.links.items x)

-- that words stand at variables
abbrev pub facts_to : List ℕ → List Element → List Fact
facts_to xs us = flat_map (λ x. facts_at (Var x) (in_part (word 0) us)) xs

module _ (p : Tables) where
  -- the word is field j of the nodes of a tag with m fields that a value stands for
  abbrev pub IsField : (Place → List Item) → ℕ → ℕ → ℕ → Val → Word → Type 0
  IsField H t m j (NodeVar x) w = ⊥
  IsField H t m j (NodeVal u ws) w = (u.0 ≡ t) × (slice_get ws j ≡ Some w)
  IsField H t m j (VectorVal ws) w =
      (m < length ws) × In (tag t) (elements_of p H (slice_get ws 0))
      × (slice_get ws (suc j) ≡ Some w)
  IsField H t m j (OneVal v) w = ⊥

  module _ (cs : List Inclusion) where
    -- every solution has these words among those that are fetched
    abbrev pub AreFetched : Fetch → List Element → Type 0
    AreFetched f us = (B : Solution) → Solves p cs B → (u : Element) → In u us
        → FetchGives p B f.cells f.word u

    -- every solution has all that the variable stands for among what is fetched
    abbrev pub HoldsFetched : Fetch → ℕ → Type 0
    HoldsFetched f x = (B : Solution) → Solves p cs B → (u : Element) → At B (Var x) (word 0) u
        → FetchGives p B f.cells f.word u

    -- every solution has what is fetched at the variable
    abbrev pub GoesTo : Fetch → ℕ → Type 0
    GoesTo f x = (B : Solution) → Solves p cs B → (u : Element) → FetchGives p B f.cells f.word u
        → At B (Var x) (word 0) u

    -- every solution has these words at the variable
    abbrev pub AreAt : ℕ → List Element → Type 0
    AreAt x us = (B : Solution) → Solves p cs B → (u : Element) → In u us → At B (Var x) (word 0) u

    pub record IsFetched (d : Fetched) : Type 0 where
      pub words : AreFetched d.fetch (words_in d.words)
      pub targets : (x : ℕ) → In x d.targets → GoesTo d.fetch x

    pub record IsCopied (c : Copies) : Type 0 where
      pub fetches : (g : ℕ) (d : Fetched) → slice_get c.fetches.items g ≡ Some d → IsFetched d
      pub within : (x g : ℕ) → In g (links_at c x) → g < length c.fetches.items
      pub links : (x g : ℕ) (d : Fetched) → In g (links_at c x)
          → slice_get c.fetches.items g ≡ Some d → HoldsFetched d.fetch x

    -- what a state knows is in every solution
    pub record IsReached (s : State) : Type 0 where
      pub kept : IsSound p cs s.kept
      pub copies : IsCopied s.copies
