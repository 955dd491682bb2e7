-- The evaluated nodes at a place, found row by row.
use Rattle.std.proofs.Common.{◌≡◌, ℕ, zero, suc, cond, nat_lt, List, [], ◌∷◌, ◌++◌, Option, Some, None, append_assoc, refl, sym, ap, ◌∙◌, arith}
use Rattle.std.specs.List.{flat_map}
use Rattle.std.proofs.lemmas.List.Concat.{flat_map-append}
use Rattle.seq.proofs.Lists.{append_nil}
use Rattle.seq.proofs.Order.{lt_false}
use Rattle.flow_system.specs.declared.fact.Element.{Element}
use Rattle.flow_system.specs.declared.fact.Element.TheVariants.{Cell as cell_of, Tag as tag, Number as num}
use Rattle.flow_system.specs.declared.fact.Place.{Place}
use Rattle.flow_system.specs.declared.fact.Part.{Part}
use Rattle.flow_system.specs.declared.fact.Part.TheVariants.{Tags as tags, Field as field, Word as word}
use Rattle.flow_system.specs.Inclusions.{nodes_at, evaluated}
use Rattle.flow_system.specs.Tables.{Tables, fields_of}
use Rattle.grin_syntax.specs.declared.program.Word as W
use Rattle.points_to.specs.declared.facts.Item.{Item}
use Rattle.points_to.specs.Held.{item, word_if_in_part, words_in_part, node_part, field_part, made_node, node_of_words, node_of_word, done_tag, done_part, done_items, elements, cell_items, items}

pub flat_flat : {X Y Z : Type 0} (g : Y → List Z) (f : X → List Y) (xs : List X)
    → flat_map g (flat_map f xs) ≡ flat_map (λ x. flat_map g (f x)) xs
flat_flat g f [] = refl
flat_flat g f (x ∷ xs) = flat_map-append g (f x) (flat_map f xs) ∙ ap (λ l. flat_map g (f x) ++ l)
    (flat_flat g f xs)

pub appends_none : {X : Type 0} (out more : List X) → more ≡ [] → out ≡ out ++ more
appends_none out more e = sym (append_nil out) ∙ ap (λ l. out ++ l) (sym e)

module _ (p : Tables) where
  -- what is left of nodes
  done_nodes : (X : List Item) → done_items p (flat_map (λ i. node_part i.part i) X) ≡ done_items p
      X
  done_nodes [] = refl
  done_nodes (i ∷ X) = flat_map-append (λ i. done_part p i.part i.word) (node_part i.part i)
      (flat_map (λ i. node_part i.part i) X) ∙ ap (λ l. done_items p (node_part i.part i) ++ l)
      (done_nodes X) ∙ ap (λ l. l ++ done_items p X) (one i.part i.word)
    where
      one : (q : Part) (u : Element) → done_items p (node_part q (item q u)) ≡ done_part p q u
      one tags u = append_nil (done_tag p u)
      one (field t j) u = append_nil (done_part p (field t j) u)
      one (word j) u = refl

  -- a tag without fields needs no further words
  no_fields : (t : ℕ) (X : List Item) → flat_map (λ i. field_part t 0 i.part i.word) X ≡ []
  no_fields t [] = refl
  no_fields t (i ∷ X) = ap (λ l. l ++ flat_map (λ i. field_part t 0 i.part i.word) X)
      (one i.part i.word) ∙ no_fields t X
    where
      one : (q : Part) (u : Element) → field_part t 0 q u ≡ []
      one tags u = refl
      one (field v j) u = refl
      one (word zero) u = refl
      one (word (suc j)) u = ap (λ b. cond b (item (field t j) u ∷ []) [])
          (lt_false j 0 (omega arith))

  pub made_alone : (t m : ℕ) (X out new : List Item) → m ≡ 0 → new ≡ out ++ item tags (tag t) ∷ []
      → new ≡ out ++ made_node p t m X
  made_alone t m X out new e q = q ∙ ap (λ l. out ++ item tags (tag t) ∷ l)
      (sym (ap (λ k. flat_map (λ i. field_part t k i.part i.word) X) e ∙ no_fields t X))

  alone : (X : List Item) (u : Element) → node_of_word p (Some 1) X u ≡ node_of_word p (Some 1) [] u
  alone X (cell_of s) = refl
  alone X num = refl
  alone X (tag t) = go (fields_of p t)
    where
      go : (m : Option ℕ) → node_of_words p (Some 1) X t m ≡ node_of_words p (Some 1) [] t m
      go None = refl
      go (Some zero) = ap (λ l. cond (nat_lt 0 1) (item tags (tag t) ∷ l) []) (no_fields t X)
      go (Some (suc m)) = ap (λ b. cond b (made_node p t (suc m) X) [])
          (lt_false (suc m) 1 (omega arith)) ∙ sym
          (ap (λ b. cond b (made_node p t (suc m) []) []) (lt_false (suc m) 1 (omega arith)))

  pub evaluated_is : (H : Place → List Item) (w : W.Word) → items p H (evaluated (nodes_at w))
      ≡ flat_map (λ u. done_items p (cell_items H u)) (elements p H w)
      ++ done_items p
      (flat_map (node_of_word p (Some 1) [])
      (flat_map (λ u. words_in_part (word 0) (cell_items H u)) (elements p H w)))
  evaluated_is H w =
      let X = flat_map (cell_items H) (elements p H w) in
      flat_map-append (λ i. done_part p i.part i.word) (flat_map (λ i. node_part i.part i) X)
      (flat_map (node_of_word p (Some 1) X) (words_in_part (word 0) X))
      ∙ ap (λ l. l ++ done_items p
      (flat_map (node_of_word p (Some 1) X) (words_in_part (word 0) X)))
      (done_nodes X ∙ flat_flat (λ i. done_part p i.part i.word) (cell_items H)
      (elements p H w))
      ∙ ap (λ f. flat_map (λ u. done_items p (cell_items H u)) (elements p H w)
      ++ done_items p (flat_map f (words_in_part (word 0) X))) (λ i u. alone X u i)
      ∙ ap (λ l. flat_map (λ u. done_items p (cell_items H u)) (elements p H w)
      ++ done_items p (flat_map (node_of_word p (Some 1) []) l))
      (flat_flat (word_if_in_part (word 0)) (cell_items H) (elements p H w))

  pub evaluated_from : (H : Place → List Item) (w : W.Word) (cs ds fs : List Element)
      (out mid new : List Item) → cs ≡ elements p H w → ds ≡ elements p H w
      → fs ≡ flat_map (λ u. words_in_part (word 0) (cell_items H u)) ds
      → mid ≡ out ++ flat_map (λ u. done_items p (cell_items H u)) cs → new ≡ mid
      ++ done_items p (flat_map (node_of_word p (Some 1) []) fs) → new ≡ out
      ++ items p H (evaluated (nodes_at w))
  evaluated_from H w cs ds fs out mid new a b f d e =
      let rest = done_items p (flat_map (node_of_word p (Some 1) []) fs) in
      e ∙ ap (λ l. l ++ rest) d ∙ append_assoc out
      (flat_map (λ u. done_items p (cell_items H u)) cs) rest
      ∙ ap (λ l. out ++ (flat_map (λ u. done_items p (cell_items H u)) l ++ rest)) a
      ∙ ap (λ l. out ++
      (flat_map (λ u. done_items p (cell_items H u)) (elements p H w)
      ++ done_items p (flat_map (node_of_word p (Some 1) []) l)))
      (f ∙ ap (flat_map (λ u. words_in_part (word 0) (cell_items H u))) b)
      ∙ ap (λ l. out ++ l) (sym (evaluated_is H w))
