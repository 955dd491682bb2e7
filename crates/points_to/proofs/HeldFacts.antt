-- Facts that are known, and loops that look at some of them after the others.
use Rattle.std.proofs.Common.{◌≡◌, ◌+◌, ◌<◌, ◌≤◌, ℕ, suc, List, [], ◌∷◌, ◌++◌, length, drop, get_or, refl, sym, ap, ◌∙◌, subst, inl, ⊎_elim, arith}
use Rattle.std.specs.List.{flat_map}
use Rattle.grin_syntax.specs.declared.program.Word as W
use Rattle.flow_system.specs.declared.fact.Element.{Element}
use Rattle.flow_system.specs.declared.fact.Place.{Place}
use Rattle.flow_system.specs.declared.fact.Part.{Part}
use Rattle.flow_system.specs.Tables.{Tables}
use Rattle.points_to.specs.declared.facts.Item.{Item}
use Rattle.points_to.specs.declared.facts.Fact.{Fact}
use Rattle.points_to.specs.Asked.{fact, facts_at}
use Rattle.points_to.specs.Held.{In, item, words_in_part, in_part, elements, numbered}
use Rattle.points_to.specs.Known.{GrowsByFacts}
use Rattle.points_to.specs.Rounds.{AllFactsKnown}
use Rattle.points_to.proofs.GivenItems.{picked_in}
use Rattle.seq.proofs.Lists.{map_append, drop_past, drop_next}
use Rattle.seq.proofs.Member.{none_in, one_in, in_split, map_in}

module _ (H : Place → List Item) where
  pub items_held : (q : Place) (X : List Item) → ((i : Item) → In i X → In i (H q))
      → AllFactsKnown H (facts_at q X)
  items_held q X known f h =
      let a = map_in (fact q) X h in
      subst (λ g. In g.item (H g.place)) (sym a.2) (known a.0 a.1)

  pub words_held : (q : Place) (part : Part) (us : List Element)
      → ((u : Element) → In u us → In u (words_in_part part (H q)))
      → AllFactsKnown H (facts_at q (in_part part us))
  words_held q part us known = items_held q (in_part part us) (λ i h.
      let b = map_in (item part) us h in
      subst (λ j. In j (H q)) (sym b.2) (picked_in part (H q) (known b.0 b.1)))

  pub word_held : (q : Place) (part : Part) (u : Element) → In (item part u) (H q)
      → AllFactsKnown H (facts_at q (in_part part (u ∷ [])))
  word_held q part u known f h = subst (λ g. In g.item (H g.place))
      (sym (one_in (fact q (item part u)) h)) known

  pub both_held : (fs gs : List Fact) → AllFactsKnown H fs → AllFactsKnown H gs
      → AllFactsKnown H (fs ++ gs)
  both_held fs gs x y f h = ⊎_elim (x f) (y f) (in_split fs gs h)

  -- what is known adds nothing
  pub held_grows : (fs : List Fact) → AllFactsKnown H fs → GrowsByFacts H H fs
  held_grows fs known = record { kept = λ q j h. h; put = known; only = λ q j h. inl h }

  -- all is known where what a loop has still to look at is
  module _ {X : Type 0} (rest : ℕ → List X → List Fact) (one : ℕ → X → List Fact) where
    pub held_next : ((j : ℕ) (x : X) (xs : List X) → rest j (x ∷ xs) ≡ one j x ++ rest (suc j) xs)
        → (xs : List X) (i j j' : ℕ) (d : X) (all : List Fact) → i < length xs → j' ≡ j + 1
        → AllFactsKnown H (one j (get_or xs i d)) →
        (AllFactsKnown H (rest j (drop i xs)) → AllFactsKnown H all)
        → AllFactsKnown H (rest j' (drop (i + 1) xs)) → AllFactsKnown H all
    held_next step xs i j j' d all lt q k l m =
        let x = get_or xs i d in
        let next : j' ≡ suc j = omega (arith, q) in
        let later = drop (i + 1) xs in
        let e : drop i xs ≡ x ∷ later = drop_next xs i d lt in
        l (subst (AllFactsKnown H) (sym (ap (rest j) e ∙ step j x later))
        (both_held (one j x) (rest (suc j) later) k
        (subst (λ n. AllFactsKnown H (rest n later)) next m)))

    pub held_done : ((j : ℕ) → rest j [] ≡ []) → (xs : List X) (i j : ℕ) (all : List Fact)
        → length xs ≤ i → (AllFactsKnown H (rest j (drop i xs)) → AllFactsKnown H all)
        → AllFactsKnown H all
    held_done none xs i j all le l = l
        (subst (AllFactsKnown H) (sym (ap (rest j) (drop_past xs i le) ∙ none j))
        (λ f h. none_in h))

-- numbered words at a place
module _ (p : Tables) (H : Place → List Item) (q : Place) (at : ℕ → Part) where
  abbrev pub numbered_facts : ℕ → List W.Word → List Fact
  numbered_facts j ws = facts_at q (numbered p H at j ws)

  abbrev pub one_numbered : ℕ → W.Word → List Fact
  one_numbered j w = facts_at q (in_part (at j) (elements p H w))

  pub numbered_step : (j : ℕ) (w : W.Word) (ws : List W.Word)
      → numbered_facts j (w ∷ ws) ≡ one_numbered j w ++ numbered_facts (suc j) ws
  numbered_step j w ws = map_append (fact q) (in_part (at j) (elements p H w))
      (numbered p H at (suc j) ws)

pub none_of_none : {X Y : Type 0} (f : X → List Y) (xs : List X) → length xs ≡ 0
    → flat_map f xs ≡ []
none_of_none f [] e = refl
none_of_none f (x ∷ xs) e = absurd (omega (arith, e))
