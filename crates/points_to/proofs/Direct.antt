-- Words that are picked out of items in which they were just put.
use Rattle.std.proofs.Common.{◌≡◌, ℕ, zero, suc, ◌+◌, ◌<◌, false, cond, nat_eq, List, [], ◌∷◌, ◌++◌, map, Option, Some, None, slice_get, refl, ap, ◌∙◌, arith}
use Rattle.std.specs.List.{flat_map}
use Rattle.std.proofs.lemmas.Bool.Decides.{nat_tests}
use Rattle.std.proofs.lemmas.List.Concat.{flat_map-append}
use Rattle.seq.proofs.Lists.{append_nil}
use Rattle.seq.proofs.Order.{eq_self}
use Rattle.grin_syntax.specs.declared.program.Word as W
use Rattle.flow_system.specs.declared.fact.Element.{Element}
use Rattle.flow_system.specs.declared.fact.Place.{Place}
use Rattle.flow_system.specs.declared.fact.Part.{Part}
use Rattle.flow_system.specs.declared.fact.Part.TheVariants.{Tags as tags, Word as word}
use Rattle.flow_system.specs.Tables.{Tables}
use Rattle.points_to.specs.declared.facts.Item.{Item}
use Rattle.points_to.specs.Held.{item, word_if_in_part, words_in_part, in_part, field_of_tag, fetched, as_word, elements, numbered, cell_items}
use Rattle.points_to.specs.Asked.{fact, facts_at}
use Rattle.points_to.proofs.Done.{flat_flat}

pub facts_of_words : (q : Place) (part : Part) (ws : List Element)
    → map (λ u. fact q (item part u)) ws ≡ facts_at q (in_part part ws)
facts_of_words q part [] = refl
facts_of_words q part (w ∷ ws) = ap (λ l. fact q (item part w) ∷ l) (facts_of_words q part ws)

pub picked_same : (j : ℕ) (ws : List Element) → words_in_part (word j) (in_part (word j) ws) ≡ ws
picked_same j [] = refl
picked_same j (w ∷ ws) = ap
    (λ b. cond b (w ∷ []) [] ++ words_in_part (word j) (in_part (word j) ws)) (eq_self j) ∙ ap
    (λ l. w ∷ l) (picked_same j ws)

picked_other : (j i : ℕ) (ws : List Element) → nat_eq j i ≡ false
    → words_in_part (word j) (in_part (word i) ws) ≡ []
picked_other j i [] e = refl
picked_other j i (w ∷ ws) e = ap
    (λ b. cond b (w ∷ []) [] ++ words_in_part (word j) (in_part (word i) ws)) e ∙ picked_other j i
    ws e

no_tag : (i : ℕ) (ws : List Element) → words_in_part tags (in_part (word i) ws) ≡ []
no_tag i [] = refl
no_tag i (w ∷ ws) = no_tag i ws

apart : (j i : ℕ) → j < i → nat_eq j i ≡ false
apart j i lt = grind (arith, nat_tests)

pub picked_cells : (H : Place → List Item) (cells : List Element)
    → words_in_part (word 0) (flat_map (cell_items H) cells) ≡ flat_map
    (λ w. words_in_part (word 0) (cell_items H w)) cells
picked_cells H cells = flat_flat (word_if_in_part (word 0)) (cell_items H) cells

module _ (p : Tables) (H : Place → List Item) where
  -- what the word stands for, where there is one
  abbrev pub elements_if : Option W.Word → List Element
  elements_if None = []
  elements_if (Some w) = elements p H w

  before : (ws : List W.Word) (i j : ℕ) → j < i → words_in_part (word j) (numbered p H word i ws) ≡
      []
  before [] i j lt = refl
  before (w ∷ ws) i j lt =
      flat_map-append (word_if_in_part (word j)) (in_part (word i) (elements p H w))
      (numbered p H word (suc i) ws)
      ∙ ap (λ l. l ++ words_in_part (word j) (numbered p H word (suc i) ws))
      (picked_other j i (elements p H w) (apart j i lt))
      ∙ before ws (suc i) j (omega (arith, lt))

  pub picked_numbered : (ws : List W.Word) (i n j : ℕ) → j ≡ i + n
      → words_in_part (word j) (numbered p H word i ws) ≡ elements_if (slice_get ws n)
  picked_numbered [] i n j e = refl
  picked_numbered (w ∷ ws) i zero j e =
      let same : j ≡ i = omega (arith, e) in
      let later = numbered p H word (suc i) ws in
      flat_map-append (word_if_in_part (word j)) (in_part (word i) (elements p H w)) later
      ∙ ap (λ k. words_in_part (word k) (in_part (word i) (elements p H w))
      ++ words_in_part (word j) later) same
      ∙ ap (λ l. l ++ words_in_part (word j) later) (picked_same i (elements p H w))
      ∙ ap (λ l. elements p H w ++ l) (before ws (suc i) j (omega (arith, same)))
      ∙ append_nil (elements p H w)
  picked_numbered (w ∷ ws) i (suc n) j e =
      let after : i < j = omega (arith, e) in
      let other : nat_eq j i ≡ false = grind (arith, nat_tests) in
      flat_map-append (word_if_in_part (word j)) (in_part (word i) (elements p H w))
      (numbered p H word (suc i) ws)
      ∙ ap (λ l. l ++ words_in_part (word j) (numbered p H word (suc i) ws))
      (picked_other j i (elements p H w) other)
      ∙ picked_numbered ws (suc i) n j (omega (arith, e))

  no_tags : (ws : List W.Word) (i : ℕ) → words_in_part tags (numbered p H word i ws) ≡ []
  no_tags [] i = refl
  no_tags (w ∷ ws) i =
      flat_map-append (word_if_in_part tags) (in_part (word i) (elements p H w))
      (numbered p H word (suc i) ws)
      ∙ ap (λ l. l ++ words_in_part tags (numbered p H word (suc i) ws)) (no_tag i (elements p H w))
      ∙ no_tags ws (suc i)

  none_fetched : (j : ℕ) (X : List Item) → words_in_part tags X ≡ [] → fetched p j X ≡ []
  none_fetched zero X e = e
  none_fetched (suc i) X e = ap (flat_map (field_of_tag p i X)) e

  -- word j of items without nodes
  pub word_of_words : (j : ℕ) (X : List Item) → words_in_part tags X ≡ []
      → as_word p j X ≡ words_in_part (word j) X
  word_of_words j X e = ap (λ l. words_in_part (word j) X ++ l) (none_fetched j X e) ∙ append_nil
      (words_in_part (word j) X)

  -- word j of a vector is what its word j stands for
  pub word_of_vector : (j : ℕ) (ws : List W.Word) → as_word p j (numbered p H word 0 ws) ≡
      elements_if (slice_get ws j)
  word_of_vector j ws = word_of_words j (numbered p H word 0 ws) (no_tags ws 0) ∙ picked_numbered ws
      0 j j (omega arith)
