-- What is asked of the nodes of one tag needs no others.
use Rattle.std.proofs.Common.{◌≡◌, ℕ, zero, suc, Bool, true, false, cond, nat_eq, nat_lt, List, [], ◌∷◌, ◌++◌, Option, Some, None, refl, sym, ap, ◌∙◌}
use Rattle.std.specs.List.{flat_map}
use Rattle.std.proofs.lemmas.List.Concat.{flat_map-append}
use Rattle.grin_syntax.specs.declared.program.Word.{Word}
use Rattle.flow_system.specs.declared.fact.Element.{Element}
use Rattle.flow_system.specs.declared.fact.Element.TheVariants.{Cell, Tag, Number}
use Rattle.flow_system.specs.declared.fact.Part.{Part}
use Rattle.flow_system.specs.declared.fact.Part.TheVariants.{Tags as tags, Field as field, Word as word}
use Rattle.flow_system.specs.declared.fact.Place.{Place}
use Rattle.flow_system.specs.Tables.{Tables, fields_of}
use Rattle.points_to.specs.declared.facts.Item.{Item}
use Rattle.points_to.specs.Held.{item, word_if_in_part, words_in_part, node_part, shifted_word, field_part, argument_part, words_hold_tag, made_node, node_of_words, node_of_word, as_nodes, after_fields, arguments_of}
use Rattle.points_to.specs.OneTag.{node_if_tag, as_nodes_of}
use Rattle.points_to.proofs.Done.{flat_flat}

flat_none : {X Y : Type 0} (f : X → List Y) → ((x : X) → f x ≡ []) → (xs : List X)
    → flat_map f xs ≡ []
flat_none f h [] = refl
flat_none f h (x ∷ xs) = ap (λ l. l ++ flat_map f xs) (h x) ∙ flat_none f h xs

module _ {Y : Type 0} (f : Item → List Y) (v : ℕ) (no_tag : f (item tags (Tag v)) ≡ [])
    (no_field : (j : ℕ) (u : Element) → f (item (field v j) u) ≡ []) where
  none_if : (b : Bool) (j : ℕ) (u : Element) → flat_map f (cond b (item (field v j) u ∷ []) []) ≡ []
  none_if true j u = ap (λ l. l ++ []) (no_field j u)
  none_if false j u = refl

  none_shifted : (m j : ℕ) (u : Element) → flat_map f (shifted_word v m j u) ≡ []
  none_shifted m zero u = refl
  none_shifted m (suc j) u = none_if (nat_lt j m) j u

  none_part : (m : ℕ) (q : Part) (u : Element) → flat_map f (field_part v m q u) ≡ []
  none_part m tags u = refl
  none_part m (field t j) u = refl
  none_part m (word j) u = none_shifted m j u

  none_made : (p : Tables) (m : ℕ) (X : List Item) → flat_map f (made_node p v m X) ≡ []
  none_made p m X = ap (λ l. l ++ flat_map f (flat_map (λ i. field_part v m i.part i.word) X))
      no_tag
      ∙ flat_flat f (λ i. field_part v m i.part i.word) X ∙ flat_none
      (λ i. flat_map f (field_part v m i.part i.word)) (λ i. none_part m i.part i.word) X

  none_when : (p : Tables) (b : Bool) (m : ℕ) (X : List Item)
      → flat_map f (cond b (made_node p v m X) []) ≡ []
  none_when p true m X = none_made p m X
  none_when p false m X = refl

  none_node : (p : Tables) (k : Option ℕ) (X : List Item) (o : Option ℕ)
      → flat_map f (node_of_words p k X v o) ≡ []
  none_node p k X None = refl
  none_node p k X (Some m) = none_when p (words_hold_tag k m) m X

-- what is made of items, where nothing is made of the nodes of other tags
module _ {Y : Type 0} (f : Item → List Y) (t : ℕ)
    (no_tag : (v : ℕ) → nat_eq v t ≡ false → f (item tags (Tag v)) ≡ [])
    (no_field : (v j : ℕ) (u : Element) → nat_eq v t ≡ false → f (item (field v j) u) ≡ [])
    (p : Tables) (k : Option ℕ) (X : List Item) where
  one_word : (u : Element) → flat_map f (node_of_word p k X u) ≡ flat_map f (node_if_tag p t k X u)
  one_word (Cell s) = refl
  one_word (Tag v) = go (nat_eq v t) refl
    where
      go : (b : Bool) → nat_eq v t ≡ b → flat_map f (node_of_word p k X (Tag v)) ≡ flat_map f
          (cond b (node_of_word p k X (Tag v)) [])
      go true e = refl
      go false e = none_node f v (no_tag v e) (λ j u. no_field v j u e) p k X (fields_of p v)
  one_word Number = refl

  pub one_tag : flat_map f (as_nodes p k X) ≡ flat_map f (as_nodes_of p t k X)
  one_tag =
      let A = flat_map (λ i. node_part i.part i) X in
      let L = words_in_part (word 0) X in
      flat_map-append f A (flat_map (node_of_word p k X) L)
      ∙ ap (λ l. flat_map f A ++ l)
      (flat_flat f (node_of_word p k X) L ∙ ap (λ g. flat_map g L) (λ i u. one_word u i) ∙ sym
      (flat_flat f (node_if_tag p t k X) L))
      ∙ sym (flat_map-append f A (flat_map (node_if_tag p t k X) L))

module _ (p : Tables) (H : Place → List Item) (t : ℕ) (ws : List Word) where
  other_argument : (v j : ℕ) (u : Element) → nat_eq v t ≡ false → argument_part t (field v j) u ≡ []
  other_argument v j u e = ap (λ b. cond b (item (word j) u ∷ []) []) e

  fields_same : (k : Option ℕ) (X : List Item) → flat_map (λ i. argument_part t i.part i.word)
      (as_nodes p k X) ≡ flat_map (λ i. argument_part t i.part i.word) (as_nodes_of p t k X)
  fields_same k X = one_tag (λ i. argument_part t i.part i.word) t (λ v e. refl) other_argument p k
      X

  word_same : (k : Option ℕ) (X : List Item) (u : Element)
      → arguments_of p H t ws (as_nodes p k X) u ≡ arguments_of p H t ws (as_nodes_of p t k X) u
  word_same k X (Cell s) = refl
  word_same k X (Tag v) = ap (λ l. cond (nat_eq v t) (l ++ after_fields p H ws (fields_of p t)) [])
      (fields_same k X)
  word_same k X Number = refl

  of_other : (Z : List Item) (v : ℕ) → nat_eq v t ≡ false
      → flat_map (arguments_of p H t ws Z) (word_if_in_part tags (item tags (Tag v))) ≡ []
  of_other Z v e = ap
      (λ b. cond b
      (flat_map (λ i. argument_part t i.part i.word) Z ++ after_fields p H ws (fields_of p t)) []
      ++ []) e

  found_same : (Z : List Item) (k : Option ℕ) (X : List Item)
      → flat_map (arguments_of p H t ws Z) (words_in_part tags (as_nodes p k X)) ≡ flat_map
      (arguments_of p H t ws Z) (words_in_part tags (as_nodes_of p t k X))
  found_same Z k X =
      let f = arguments_of p H t ws Z in
      flat_flat f (word_if_in_part tags) (as_nodes p k X)
      ∙ one_tag (λ i. flat_map f (word_if_in_part tags i)) t (of_other Z) (λ v j u e. refl) p k X
      ∙ sym (flat_flat f (word_if_in_part tags) (as_nodes_of p t k X))

  pub arguments_of_tag : (k : Option ℕ) (X : List Item)
      → flat_map (arguments_of p H t ws (as_nodes_of p t k X))
      (words_in_part tags (as_nodes_of p t k X)) ≡ flat_map (arguments_of p H t ws (as_nodes p k X))
      (words_in_part tags (as_nodes p k X))
  arguments_of_tag k X = sym
      (found_same (as_nodes p k X) k X ∙ ap
      (λ f. flat_map f (words_in_part tags (as_nodes_of p t k X))) (λ i u. word_same k X u i))
