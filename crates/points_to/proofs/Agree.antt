-- An inclusion asks for the same, and reads the same places, where the same is known at the places
-- that it reads.
use Rattle.std.proofs.Common.{◌≡◌, ℕ, suc, cond, nat_eq, List, [], ◌∷◌, ◌++◌, Option, Some, None, refl, ap, ◌∙◌, ⊎_elim}
use Rattle.std.specs.List.{flat_map}
use Rattle.grin_syntax.specs.declared.program.Word.{Word}
use Rattle.grin_syntax.specs.declared.program.Word.TheVariants.{Lit, Var, Global, TagWord}
use Rattle.grin_syntax.specs.declared.program.Val.{Val}
use Rattle.grin_syntax.specs.declared.program.Val.TheVariants.{NodeVar, Node as NodeVal, Vector as VectorVal, One as OneVal}
use Rattle.flow_system.specs.declared.fact.Element.{Element as AbstractWord}
use Rattle.flow_system.specs.declared.fact.Element.TheVariants.{Cell as cell_of, Tag as tag, Number as num}
use Rattle.flow_system.specs.declared.fact.Place.{Place}
use Rattle.flow_system.specs.declared.fact.Place.TheVariants.{Site as site, Var as var, Result as result}
use Rattle.flow_system.specs.declared.fact.Part.{Part}
use Rattle.flow_system.specs.declared.fact.Part.TheVariants.{Tags as tags, Field as field, Word as word}
use Rattle.flow_system.specs.Inclusions.{Source, value, a_cell, a_number, held, nodes_at, word_at, evaluated, extended, arguments, FlowSink, to, into_site, into_result, cells_at, Inclusion, flows, forces, applies}
use Rattle.flow_system.specs.Tables.{Tables, fields_of, params_of}
use Rattle.flow_system.specs.Solution.{width}
use Rattle.points_to.specs.declared.facts.Item.{Item}
use Rattle.points_to.specs.Held.{In, here, there, item, words_in_part, in_part, as_nodes, done_items, elements, numbered, value_items, cell_items, fetched, fetched_at, last_field, longer_node, longer_tag, longer, after_fields, moved_part, argument_part, arguments_of, items, delayed, called}
use Rattle.points_to.specs.Asked.{cell_facts, asked, flow_facts, delayed_facts, forced, called_facts, applied, facts_demanded}
use Rattle.points_to.specs.Reads.{word_reads, value_reads, sink_reads, cell_reads, result_reads, forced_reads, applied_reads, cells_reads, source_reads, reads, Agree}
use Rattle.seq.proofs.Member.{in_left, in_right, in_split}

-- functions that agree on a list's members
flat_same : {X Y : Type 0} (f g : X → List Y) (xs : List X) → ((x : X) → In x xs → f x ≡ g x)
    → flat_map f xs ≡ flat_map g xs
flat_same f g [] e = refl
flat_same f g (x ∷ xs) e = ap (λ l. l ++ flat_map f xs) (e x here) ∙ ap (λ l. g x ++ l)
    (flat_same f g xs (λ y h. e y (there h)))

module _ (p : Tables) (H H' : Place → List Item) where
  left : (qs rs : List Place) → Agree H H' (qs ++ rs) → Agree H H' qs
  left qs rs g = record { at = λ q h. g.at q (in_left qs rs h) }

  right : (qs rs : List Place) → Agree H H' (qs ++ rs) → Agree H H' rs
  right qs rs g = record { at = λ q h. g.at q (in_right qs rs h) }

  -- of one member among several
  of_member : {X : Type 0} (f : X → List Place) (xs : List X) (x : X) → In x xs
      → Agree H H' (flat_map f xs) → Agree H H' (f x)
  of_member f [] x h g = elim h [ ]
  of_member f (y ∷ xs) x here g = left (f x) (flat_map f xs) g
  of_member f (y ∷ xs) x (there h) g = of_member f xs x h (right (f y) (flat_map f xs) g)

  same_elements : (w : Word) → Agree H H' (word_reads w) → elements p H' w ≡ elements p H w
  same_elements (Lit k) g = refl
  same_elements (Var x) g = ap (words_in_part (word 0)) (g.at (var x.0) here)
  same_elements (Global i) g = refl
  same_elements (TagWord t) g = refl

  same_numbered : (at : ℕ → Part) (j : ℕ) (ws : List Word) → Agree H H' (flat_map word_reads ws)
      → numbered p H' at j ws ≡ numbered p H at j ws
  same_numbered at j [] g = refl
  same_numbered at j (w ∷ ws) g =
      ap (λ l. in_part (at j) l ++ numbered p H' at (suc j) ws)
      (same_elements w (left (word_reads w) (flat_map word_reads ws) g))
      ∙ ap (λ l. in_part (at j) (elements p H w) ++ l)
      (same_numbered at (suc j) ws (right (word_reads w) (flat_map word_reads ws) g))

  same_value : (v : Val) → Agree H H' (value_reads v) → value_items p H' v ≡ value_items p H v
  same_value (NodeVar x) g = g.at (var x.0) here
  same_value (NodeVal t ws) g = ap (λ l. item tags (tag t.0) ∷ l) (same_numbered (field t.0) 0 ws g)
  same_value (VectorVal ws) g = same_numbered word 0 ws g
  same_value (OneVal w) g = ap (in_part (word 0)) (same_elements w g)

  same_cell : (u : AbstractWord) → Agree H H' (cell_reads u) → cell_items H' u ≡ cell_items H u
  same_cell (cell_of s) g = g.at (site s) here
  same_cell (tag t) g = refl
  same_cell num g = refl

  same_fetched : (i : ℕ) (u : AbstractWord) → Agree H H' (cell_reads u)
      → fetched_at p H' i u ≡ fetched_at p H i u
  same_fetched i (cell_of s) g = ap (fetched p i) (g.at (site s) here)
  same_fetched i (tag t) g = refl
  same_fetched i num g = refl

  -- what is made of each cell of a word
  at_cells : {Y : Type 0} (F : (Place → List Item) → AbstractWord → List Y)
      → ((u : AbstractWord) → Agree H H' (cell_reads u) → F H' u ≡ F H u)
      → (w : Word) → Agree H H' (cells_reads p H w)
      → flat_map (F H') (elements p H' w) ≡ flat_map (F H) (elements p H w)
  at_cells F one w g =
      ap (flat_map (F H'))
      (same_elements w (left (word_reads w) (flat_map cell_reads (elements p H w)) g))
      ∙ flat_same (F H') (F H) (elements p H w)
      (λ u h. one u
      (of_member cell_reads (elements p H w) u h
      (right (word_reads w) (flat_map cell_reads (elements p H w)) g)))

  same_longer : (a : Word) (X : List Item) (u : AbstractWord) → elements p H' a ≡ elements p H a
      → longer_tag p H' a X u ≡ longer_tag p H a X u
  same_longer a X (cell_of s) e = refl
  same_longer a X (tag t) e = go (longer p t)
    where
      last : (t' : ℕ) (m : Option ℕ) → last_field p H' a t' m ≡ last_field p H a t' m
      last t' None = refl
      last t' (Some m) = ap (in_part (field t' m)) e

      go : (t' : Option ℕ) → longer_node p H' a X t t' ≡ longer_node p H a X t t'
      go None = refl
      go (Some t') = ap
          (λ l. item tags (tag t') ∷ (flat_map (λ i. moved_part t t' i.part i.word) X ++ l))
          (last t' (fields_of p t))
  same_longer a X num e = refl

  same_arguments : (t : ℕ) (ws : List Word) (X : List Item) (u : AbstractWord)
      → Agree H H' (flat_map word_reads ws) → arguments_of p H' t ws X u ≡ arguments_of p H t ws X u
  same_arguments t ws X (cell_of s) g = refl
  same_arguments t ws X (tag u) g = ap
      (λ l. cond (nat_eq u t) (flat_map (λ i. argument_part t i.part i.word) X ++ l) [])
      (go (fields_of p t))
    where
      go : (m : Option ℕ) → after_fields p H' ws m ≡ after_fields p H ws m
      go None = refl
      go (Some m) = same_numbered word m ws g
  same_arguments t ws X num g = refl

  pub same_items : (s : Source) → Agree H H' (source_reads p H s) → items p H' s ≡ items p H s
  same_items (value v) g = same_value v g
  same_items (a_cell s) g = refl
  same_items a_number g = refl
  same_items (held q) g = g.at q here
  same_items (nodes_at w) g = at_cells cell_items same_cell w g
  same_items (word_at w i) g = ap (in_part (word 0))
      (at_cells (λ G. fetched_at p G i) (same_fetched i) w g)
  same_items (evaluated s) g = ap (λ X. done_items p (as_nodes p (width s) X)) (same_items s g)
  same_items (extended v a) g =
      let e = same_value v (left (value_reads v) (word_reads a) g) in
      let k = width (value v) in
      ap (λ X. flat_map (longer_tag p H' a (as_nodes p k X)) (words_in_part tags (as_nodes p k X)))
      e
      ∙ flat_same (longer_tag p H' a (as_nodes p k (value_items p H v)))
      (longer_tag p H a (as_nodes p k (value_items p H v)))
      (words_in_part tags (as_nodes p k (value_items p H v)))
      (λ u h. same_longer a (as_nodes p k (value_items p H v)) u
      (same_elements a (right (value_reads v) (word_reads a) g)))
  same_items (arguments s t ws) g =
      let e = same_items s (left (source_reads p H s) (flat_map word_reads ws) g) in
      let k = width s in
      ap (λ X. flat_map (arguments_of p H' t ws (as_nodes p k X))
      (words_in_part tags (as_nodes p k X))) e
      ∙ flat_same (arguments_of p H' t ws (as_nodes p k (items p H s)))
      (arguments_of p H t ws (as_nodes p k (items p H s)))
      (words_in_part tags (as_nodes p k (items p H s)))
      (λ u h. same_arguments t ws (as_nodes p k (items p H s)) u
      (right (source_reads p H s) (flat_map word_reads ws) g))

  same_asked : (k : Option ℕ) (X : List Item) (s : FlowSink) → Agree H H' (sink_reads s)
      → asked p H' k X s ≡ asked p H k X s
  same_asked k X (to t) g = refl
  same_asked k X (into_site s) g = refl
  same_asked k X (into_result f) g = refl
  same_asked k X (cells_at w) g = ap (flat_map (cell_facts (as_nodes p k X))) (same_elements w g)

  same_flow : (s : Source) (k : FlowSink) → Agree H H' (source_reads p H s)
      → Agree H H' (sink_reads k) → flow_facts p H' s k ≡ flow_facts p H s k
  same_flow s k g h = ap (λ X. asked p H' (width s) X k) (same_items s g) ∙ same_asked (width s)
      (items p H s) k h

  none : Agree H H' []
  none = record { at = λ q h. elim h [ ] }

  and_none : (qs : List Place) → Agree H H' qs → Agree H H' (qs ++ [])
  and_none [] g = g
  and_none (q ∷ qs) g = record { at = λ r h. g.at r (drop_none (q ∷ qs) h) }
    where
      drop_none : (rs : List Place) {r : Place} → In r (rs ++ []) → In r rs
      drop_none [] h = h
      drop_none (r ∷ rs) here = here
      drop_none (r ∷ rs) (there h) = there (drop_none rs h)

  same_forced : (s : ℕ) (u : AbstractWord) → Agree H H' (site s ∷ [])
      → Agree H H' (forced_reads p u) → forced p H' s u ≡ forced p H s u
  same_forced s (cell_of v) g h = refl
  same_forced s num g h = refl
  same_forced s (tag t) g h = go (delayed p t) h
    where
      go : (f : Option ℕ) → Agree H H' (result_reads f)
          → delayed_facts p H' s t f ≡ delayed_facts p H s t f
      go None h = refl
      go (Some f) h =
          ap (λ l. l ++ flow_facts p H' (evaluated (held (result f))) (into_site s))
          (same_flow (arguments (held (site s)) t []) (to (params_of p f))
          (and_none (site s ∷ []) g) none)
          ∙ ap (λ l. flow_facts p H (arguments (held (site s)) t []) (to (params_of p f)) ++ l)
          (same_flow (evaluated (held (result f))) (into_site s) h none)

  same_applied : (v : Val) (a : Word) (k : FlowSink) (u : AbstractWord)
      → Agree H H' (value_reads v ++ (word_reads a ++ sink_reads k))
      → Agree H H' (applied_reads p u) → applied p H' v a k u ≡ applied p H v a k u
  same_applied v a k (cell_of s) g h = refl
  same_applied v a k num g h = refl
  same_applied v a k (tag t) g h = go (called p t) h
    where
      rest : Agree H H' (word_reads a ++ sink_reads k)
      rest = right (value_reads v) (word_reads a ++ sink_reads k) g

      both : Agree H H' (value_reads v ++ (word_reads a ++ []))
      both = record {
        at = λ q i. ⊎_elim (λ x. g.at q (in_left _ _ x))
            (λ y. (and_none (word_reads a) (left (word_reads a) (sink_reads k) rest)).at q y)
            (in_split (value_reads v) (word_reads a ++ []) i);
      }

      go : (f : Option ℕ) → Agree H H' (result_reads f)
          → called_facts p H' v a k t f ≡ called_facts p H v a k t f
      go None h = refl
      go (Some f) h =
          ap (λ l. l ++ flow_facts p H' (held (result f)) k)
          (same_flow (arguments (value v) t (a ∷ [])) (to (params_of p f)) both none)
          ∙ ap (λ l. flow_facts p H (arguments (value v) t (a ∷ [])) (to (params_of p f)) ++ l)
          (same_flow (held (result f)) k h (right (word_reads a) (sink_reads k) rest))

  pub same_demands : (c : Inclusion) → Agree H H' (reads p H c)
      → facts_demanded p H' c ≡ facts_demanded p H c
  same_demands (flows s k) g = same_flow s k (left (source_reads p H s) (sink_reads k) g)
      (right (source_reads p H s) (sink_reads k) g)
  same_demands (forces s) g =
      let there' = g.at (site s) here in
      let found = words_in_part tags (H (site s)) in
      ap (λ X. flat_map (forced p H' s) (words_in_part tags X)) there'
      ∙ flat_same (forced p H' s) (forced p H s) found
      (λ u h. same_forced s u (left (site s ∷ []) (flat_map (forced_reads p) found) g)
      (of_member (forced_reads p) found u h
      (right (site s ∷ []) (flat_map (forced_reads p) found) g)))
  same_demands (applies v a k) g =
      let named = value_reads v ++ (word_reads a ++ sink_reads k) in
      let found = words_in_part tags (as_nodes p (width (value v)) (value_items p H v)) in
      let g' = left named (flat_map (applied_reads p) found) g in
      ap (λ X. flat_map (applied p H' v a k) (words_in_part tags (as_nodes p (width (value v)) X)))
      (same_value v (left (value_reads v) (word_reads a ++ sink_reads k) g'))
      ∙ flat_same (applied p H' v a k) (applied p H v a k) found
      (λ u h. same_applied v a k u g'
      (of_member (applied_reads p) found u h
      (right named (flat_map (applied_reads p) found) g)))

  same_source_reads : (s : Source) → Agree H H' (source_reads p H s)
      → source_reads p H' s ≡ source_reads p H s
  same_source_reads (value v) g = refl
  same_source_reads (a_cell s) g = refl
  same_source_reads a_number g = refl
  same_source_reads (held q) g = refl
  same_source_reads (nodes_at w) g = ap (λ us. word_reads w ++ flat_map cell_reads us)
      (same_elements w (left (word_reads w) (flat_map cell_reads (elements p H w)) g))
  same_source_reads (word_at w i) g = ap (λ us. word_reads w ++ flat_map cell_reads us)
      (same_elements w (left (word_reads w) (flat_map cell_reads (elements p H w)) g))
  same_source_reads (evaluated s) g = same_source_reads s g
  same_source_reads (extended v a) g = refl
  same_source_reads (arguments s t ws) g = ap (λ l. l ++ flat_map word_reads ws)
      (same_source_reads s (left (source_reads p H s) (flat_map word_reads ws) g))

  pub same_reads : (c : Inclusion) → Agree H H' (reads p H c) → reads p H' c ≡ reads p H c
  same_reads (flows s k) g = ap (λ l. l ++ sink_reads k)
      (same_source_reads s (left (source_reads p H s) (sink_reads k) g))
  same_reads (forces s) g = ap (λ X. site s ∷ flat_map (forced_reads p) (words_in_part tags X))
      (g.at (site s) here)
  same_reads (applies v a k) g =
      let named = value_reads v ++ (word_reads a ++ sink_reads k) in
      let found = words_in_part tags (as_nodes p (width (value v)) (value_items p H v)) in
      ap (λ X. named ++ flat_map (applied_reads p)
      (words_in_part tags (as_nodes p (width (value v)) X)))
      (same_value v
      (left (value_reads v) (word_reads a ++ sink_reads k)
      (left named (flat_map (applied_reads p) found) g)))
