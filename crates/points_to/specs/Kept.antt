-- What is known of a system that reads cells by words alone.
use Rattle.std.specs.Prelude.{◌≡◌, ℕ, Bool, true, false, ◌&&◌, ◌||◌, List, [], Option, Some, None, slice_get, IfSome}
use Rattle.std.specs.List.{flat_map}
use Rattle.grin_syntax.specs.declared.program.Word.{Word}
use Rattle.grin_syntax.specs.declared.program.Word.TheVariants.{Lit, Var, Global, TagWord}
use Rattle.grin_syntax.specs.declared.program.Val.{Val}
use Rattle.grin_syntax.specs.declared.program.Val.TheVariants.{NodeVar, Node as NodeVal, Vector as VectorVal, One as OneVal}
use Rattle.flow_system.specs.declared.fact.Element.TheVariants.{Cell as cell_of}
use Rattle.flow_system.specs.declared.fact.Place.{Place}
use Rattle.flow_system.specs.declared.fact.Place.TheVariants.{Site as site, Var as var, Result as result}
use Rattle.flow_system.specs.Inclusions.{Source, value, a_cell, a_number, held as held', nodes_at, word_at, evaluated, extended, arguments, FlowSink, to, into_site, into_result, cells_at, Inclusion, flows, forces, applies}
use Rattle.flow_system.specs.Tables.{Tables}
use Rattle.flow_system.specs.Solution.{Solution, Solves, width, ValueGives, NodesTo}
use Rattle.flow_system.specs.Demands.{Content}
use Rattle.points_to.specs.declared.bits.Bits.{Bits}
use Rattle.points_to.specs.declared.facts.Item.{Item}
use Rattle.points_to.specs.declared.kept.Kept.{Kept}
use Rattle.points_to.specs.declared.noted.NotedSets.{NotedSets}
use Rattle.points_to.specs.declared.vectors.CachedWords.{CachedWords}
use Rattle.points_to.specs.declared.vectors.WordCache.{WordCache}
use Rattle.points_to.specs.declared.vectors.RoundCaches.{RoundCaches}
use Rattle.points_to.specs.Held.{In, elements}
use Rattle.points_to.specs.Known.{held, solution_of}
use Rattle.points_to.specs.Noted.{noted_at}
use Rattle.points_to.specs.Rounds.{InEvery}
use Rattle.points_to.specs.Rows.{numbers_in, words_in, SameMembers}
use Rattle.points_to.specs.Stored.{stored_at, cell_stored, values_in, value_at, whole}
use Rattle.points_to.specs.ValueWords.{words_of_values}

-- whether a sink is no cell
abbrev pub is_not_cell_sink : FlowSink → Bool
is_not_cell_sink (to t) = true
is_not_cell_sink (into_result f) = true
is_not_cell_sink (into_site s) = false
is_not_cell_sink (cells_at w) = false

-- whether a value has no node variable
abbrev pub has_no_node_variable : Val → Bool
has_no_node_variable (NodeVar x) = false
has_no_node_variable (NodeVal t ws) = true
has_no_node_variable (VectorVal ws) = true
has_no_node_variable (OneVal w) = true

-- whether a source reads no cells
abbrev pub is_not_site : Place → Bool
is_not_site (site s) = false
is_not_site (var x) = true
is_not_site (result f) = true

abbrev pub reads_no_cell : Source → Bool
reads_no_cell (value v) = true
reads_no_cell (a_cell s) = true
reads_no_cell a_number = true
reads_no_cell (held' q) = is_not_site q
reads_no_cell (nodes_at w) = false
reads_no_cell (word_at w i) = false
reads_no_cell (evaluated s) = false
reads_no_cell (extended v a) = false
reads_no_cell (arguments s t ws) = reads_no_cell s

abbrev pub touches_no_cell : Inclusion → Bool
touches_no_cell (flows s k) = reads_no_cell s && is_not_cell_sink k
touches_no_cell (forces s) = false
touches_no_cell (applies v a k) = false

-- whether an inclusion reads cells by words, if at all, and puts values of words alone into cells
abbrev pub flow_by_words : Source → FlowSink → Bool
flow_by_words (value v) k = is_not_cell_sink k || has_no_node_variable v
flow_by_words (word_at w i) k = is_not_cell_sink k
flow_by_words s k = reads_no_cell s && is_not_cell_sink k

abbrev pub is_by_words : Inclusion → Bool
is_by_words (flows s k) = flow_by_words s k
is_by_words (forces s) = false
is_by_words (applies v a k) = false

abbrev pub AllByWords : List Inclusion → Type 0
AllByWords cs = (i : ℕ) (c : Inclusion) → slice_get cs i ≡ Some c → is_by_words c ≡ true

abbrev pub cached_values_of : NotedSets → Word → Option Bits
cached_values_of m (Lit k) = None
cached_values_of m (Var x) = noted_at m x.0
cached_values_of m (Global i) = None
cached_values_of m (TagWord t) = None

-- the values in the cells of a word
abbrev pub met_by : Tables → Kept → Word → List ℕ
met_by p k w = flat_map (cell_stored k.stored) (elements p (held k.facts) w)

-- what is known grew
pub record KeepsAllFacts (k k' : Kept) : Type 0 where
  pub facts : (q : Place) (j : Item) → In j (held k.facts q) → In j (held k'.facts q)
  pub stored : (s n : ℕ) → In n (stored_at k.stored s) → In n (stored_at k'.stored s)

module _ (p : Tables) (H : Place → List Item) where
  -- the sink has a site's cells
  abbrev pub HasSite : ℕ → FlowSink → Type 0
  HasSite s (to t) = ⊥
  HasSite s (into_site r) = r ≡ s
  HasSite s (into_result f) = ⊥
  HasSite s (cells_at w) = In (cell_of s) (elements p H w)

  -- an inclusion puts a value of words into a site's cells
  pub record PutsAt (c : Inclusion) (s : ℕ) : Type 0 where
    pub v : Val
    pub sink : FlowSink
    pub is : c ≡ flows (value v) sink
    pub of_words : has_no_node_variable v ≡ true
    pub there : HasSite s sink

module _ (p : Tables) where
  -- the noted values are in the cells of their variables, or are all that are
  abbrev pub MetSound : Kept → NotedSets → Type 0
  MetSound k m = (w : Word) (b : Bits) (n : ℕ) → cached_values_of m w ≡ Some b
      → In n (numbers_in b) → In n (met_by p k w)

  abbrev pub MetExact : Kept → NotedSets → Type 0
  MetExact k m = (w : Word) (b : Bits) → cached_values_of m w ≡ Some b
      → SameMembers (numbers_in b) (met_by p k w)

  module _ (cs : List Inclusion) where
    module _ (H : Place → List Item) where
      -- these are word i of the values with these numbers
      abbrev pub AreWords : ℕ → List ℕ → Bits → Type 0
      AreWords i ns us = SameMembers (words_in us) (words_of_values p (values_in cs) H i ns)

      -- the same of words that may have been noted, and of all that were
      abbrev pub AreKnown : ℕ → List ℕ → Option Bits → Type 0
      AreKnown i ns o = IfSome o (AreWords i ns)

      abbrev pub WordsExact : WordCache → Type 0
      WordsExact m =
          (e : CachedWords) → In e m.entries.items → AreWords e.i (numbers_in e.numbers) e.words

    -- what was noted before a round is just what was known then
    pub record NotedExact (k : Kept) (m : RoundCaches) : Type 0 where
      pub met : MetExact k m.met
      pub words : WordsExact (held k.facts) m.words

    -- in a solution the nodes of the values are at their sites
    abbrev pub HasStored : Solution → Kept → Type 0
    HasStored B k = (s n : ℕ) (v : Val) → In n (stored_at k.stored s)
        → value_at (values_in cs) n ≡ Some v
        → NodesTo p B (width (value v)) (ValueGives p B v) (site s)

    -- every solution has what is known, and no facts are known of sites
    pub record IsSound (k : Kept) : Type 0 where
      pub facts : InEvery p cs (held k.facts)
      pub stored : (B : Solution) → Solves p cs B → HasStored B k
      pub no_facts : (s : ℕ) → held k.facts (site s) ≡ []
      pub of_words : (s n : ℕ) (v : Val) → In n (stored_at k.stored s)
          → value_at (values_in cs) n ≡ Some v → has_no_node_variable v ≡ true

    -- all that is known, as a solution
    abbrev pub solution : Kept → Solution
    solution k = solution_of (whole p (values_in cs) k.facts k.stored)

    -- a step keeps what is known sound, and forgets nothing; where nothing was added, all is as it
    -- was
    pub record Steps (k k' : Kept) (added : Bool) : Type 0 where
      pub sound : IsSound k → IsSound k'
      pub grew : KeepsAllFacts k k'
      pub same : added ≡ false → k' ≡ k

    -- where nothing was added, the inclusion is met
    abbrev pub MetAtEnd : Kept → Inclusion → Bool → Type 0
    MetAtEnd k c added = IsSound k → added ≡ false → Content p (solution k) c

    pub record AllMet (k : Kept) : Type 0 where
      pub by : (i : ℕ) (c : Inclusion) → slice_get cs i ≡ Some c → Content p (solution k) c
