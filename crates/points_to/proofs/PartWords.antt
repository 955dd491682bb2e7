-- The words in one part of a place, found part by part, are just those of the nodes.
use Rattle.std.proofs.Common.{◌≡◌, ◌<◌, ℕ, suc, Bool, true, nat_eq, nat_lt, ◌&&◌, List, [], ◌∷◌, Option, Some, None, slice_get, refl, sym, ap, ◌∙◌, subst, ⊎_elim, arith}
use Rattle.std.specs.Prelude.{IsTrue}
use Rattle.std.specs.List.{flat_map, list_any}
use Rattle.grin_syntax.specs.declared.program.Val.{Val}
use Rattle.grin_syntax.specs.declared.program.Val.TheVariants.{NodeVar, Node as NodeVal, Vector as VectorVal, One as OneVal}
use Rattle.flow_system.specs.declared.fact.Element.{Element as AbstractWord}
use Rattle.flow_system.specs.declared.fact.Element.TheVariants.{Cell as cell_of, Tag as tag, Number as num}
use Rattle.flow_system.specs.declared.fact.Place.{Place}
use Rattle.flow_system.specs.declared.fact.Place.TheVariants.{Site as site, Var as var, Result as result}
use Rattle.flow_system.specs.declared.fact.Part.{Part}
use Rattle.flow_system.specs.declared.fact.Part.TheVariants.{Tags as tags, Field as field, Word as word}
use Rattle.flow_system.specs.Inclusions.{value}
use Rattle.flow_system.specs.Solution.{Sets, At, AsNodes, node_tag, node_field, words_tag, words_field, EnoughWordsForTag, width}
use Rattle.flow_system.specs.Tables.{Tables, fields_of}
use Rattle.points_to.specs.declared.bits.Bits.{Bits}
use Rattle.points_to.specs.declared.facts.Facts.{Facts}
use Rattle.points_to.specs.declared.facts.Item.{Item}
use Rattle.points_to.specs.declared.stored.Stored.{Stored}
use Rattle.points_to.specs.Bits.{number_of, word_of}
use Rattle.points_to.specs.Held.{In, here, there, item, elements, words_hold_tag, words_in_part, in_part, value_items}
use Rattle.points_to.specs.Known.{held, solution_of}
use Rattle.points_to.specs.OneTag.{is_tag}
use Rattle.points_to.specs.PartWords.{tag_fits_in_words, tag_has_field, tag_of_words, nodes_in, one_given, given, value_part, stored_part, part_of_values, place_part}
use Rattle.points_to.specs.Rows.{numbers_in, words_in, SameMembers}
use Rattle.points_to.specs.Stored.{value_at, value_nodes, nodes_of, stored_nodes, stored_at, whole}
use Rattle.points_to.specs.ValueWords.{elements_of}
use Rattle.points_to.specs.Wanted.{tag_in, site_in, SameSet}
use Rattle.seq.proofs.Member.{none_in, one_in, in_left, in_right, in_split, when_in, in_when, in_flat, flat_in, in_map, map_in}
use Rattle.seq.proofs.Order.{lt_from, lt_true, eq_from, eq_self}
use Rattle.seq.proofs.Truth.{and_parts}
use Rattle.points_to.proofs.GivenItems.{enough_is, is_enough, picked_in, in_picked, nodes_mean, in_nodes}
use Rattle.points_to.proofs.Read.{tag_is, site_is, words_of}
use Rattle.points_to.proofs.Rows.{number_word}
use Rattle.points_to.proofs.Solved.{known_at, at_known}
use Rattle.points_to.proofs.Spotted.{in_any, any_in}
use Rattle.points_to.proofs.ValueWords.{both, numbered_at, no_tags, no_fields, word_is, its_tag_is, no_words, its_field_is}

are_enough_is : (k o : Option ℕ) → tag_fits_in_words k o ≡ true → (m : ℕ) × (o ≡ Some m)
    × EnoughWordsForTag k m
are_enough_is k None e = cc
are_enough_is k (Some m) e = (m, refl, enough_is k m e)

has_one_is : (k : Option ℕ) (i : ℕ) (o : Option ℕ) → tag_has_field k i o ≡ true → (m : ℕ)
    × (o ≡ Some m) × EnoughWordsForTag k m × (i < m)
has_one_is k i None e = cc
has_one_is k i (Some m) e = let r = and_parts (words_hold_tag k m) (nat_lt i m) e
    in (m, refl, enough_is k m r.0, lt_from i m r.1)

its_tag : (t : ℕ) (u : AbstractWord) → is_tag t u ≡ true → u ≡ tag t
its_tag t (cell_of s) e = cc
its_tag t (tag v) e = ap tag (eq_from v t e)
its_tag t num e = cc

module _ (p : Tables) (H : Place → List Item) where
  -- a value as it is written
  given_in : (v : Val) (q : Part) (u : AbstractWord) → In u (given p H v q)
      → In (item q u) (value_items p H v)
  given_in (NodeVar x) q u h = picked_in q (H (var x.0)) h
  given_in (NodeVal t ws) tags u h = subst (λ w. In (item tags w) (value_items p H (NodeVal t ws)))
      (sym (one_in (tag t.0) h)) here
  given_in (NodeVal t ws) (field t' i) u h =
      let w = when_in (nat_eq t' t.0) (elements_of p H (slice_get ws i)) h in
      subst (λ n. In (item (field n i) u) (value_items p H (NodeVal t ws)))
      (sym (eq_from t' t.0 w.0))
      (there (numbered_at p H (field t.0) 0 ws i i u (omega arith) w.1))
  given_in (NodeVal t ws) (word j) u h = none_in h
  given_in (VectorVal ws) tags u h = none_in h
  given_in (VectorVal ws) (field t i) u h = none_in h
  given_in (VectorVal ws) (word j) u h = numbered_at p H word 0 ws j j u (omega arith) h
  given_in (OneVal w) tags u h = none_in h
  given_in (OneVal w) (field t i) u h = none_in h
  given_in (OneVal w) (word j) u h =
      let e = when_in (nat_eq j 0) (elements p H w) h in
      subst (λ n. In (item (word n) u) (in_part (word 0) (elements p H w))) (sym (eq_from j 0 e.0))
      (in_map (item (word 0)) (elements p H w) e.1)

  in_given : (v : Val) (q : Part) (u : AbstractWord) → In (item q u) (value_items p H v)
      → In u (given p H v q)
  in_given (NodeVar x) q u h = in_picked q (H (var x.0)) h
  in_given (NodeVal t ws) tags u h = subst (λ w. In w (tag t.0 ∷ []))
      (sym (its_tag_is p H t ws u h)) here
  in_given (NodeVal t ws) (field t' i) u h =
      let r = its_field_is p H t ws t' i u h in
      in_when (nat_eq t' t.0) (elements_of p H (slice_get ws i))
      (ap (λ n. nat_eq n t.0) r.0 ∙ eq_self t.0) r.1
  in_given (NodeVal t ws) (word j) u h = no_words p H t ws j u h
  in_given (VectorVal ws) tags u h = no_tags p H ws u h
  in_given (VectorVal ws) (field t i) u h = no_fields p H ws t i u h
  in_given (VectorVal ws) (word j) u h = word_is p H ws j u h
  in_given (OneVal w) q u h =
      let r = map_in (item (word 0)) (elements p H w) h in
      let at : q ≡ word 0 = ap (λ i. i.part) r.2 in
      let same : u ≡ r.0 = ap (λ i. i.word) r.2 in
      let first : In r.0 (one_given p H w (word 0)) = r.1 in
      subst (λ q. In u (one_given p H w q)) (sym at)
      (subst (λ x. In x (one_given p H w (word 0))) (sym same) first)

  -- the nodes that it stands for
  module _ (v : Val) where
    abbrev k : Option ℕ
    k = width (value v)

    abbrev G : Part → List AbstractWord
    G = given p H v

    abbrev S : Sets
    S q u = In u (G q)

    part_means : (q : Part) (u : AbstractWord) → In u (nodes_in p k G q) → AsNodes p k S q u
    part_means tags u h = ⊎_elim
        (λ a. node_tag a)
        (λ b. let r = flat_in (tag_of_words p k) (G (word 0)) b in made r.0 r.1 r.2)
        (in_split (G tags) (flat_map (tag_of_words p k) (G (word 0))) h)
      where
        made : (w : AbstractWord) → In w (G (word 0)) → In u (tag_of_words p k w)
            → AsNodes p k S tags u
        made (cell_of s) x y = none_in y
        made num x y = none_in y
        made (tag t) x y =
            let w = when_in (tag_fits_in_words k (fields_of p t)) (tag t ∷ []) y in
            let m = are_enough_is k (fields_of p t) w.0 in
            subst (AsNodes p k S tags) (sym (one_in (tag t) w.1)) (words_tag x m.1 m.2)
    part_means (field t i) u h = ⊎_elim
        (λ a. node_field a)
        (λ b.
        let w = when_in (list_any (is_tag t) (G (word 0)) && tag_has_field k i (fields_of p t))
        (G (word (suc i))) b in
        let e = and_parts (list_any (is_tag t) (G (word 0))) (tag_has_field k i (fields_of p t)) w.0
        in
        let r = any_in (is_tag t) (G (word 0)) e.0 in
        let m = has_one_is k i (fields_of p t) e.1 in
        words_field (subst (λ x. In x (G (word 0))) (its_tag t r.0 r.2) r.1) m.1 m.2 m.3 w.1)
        (in_split (G (field t i)) _ h)
    part_means (word j) u h = none_in h

    in_part_of : (q : Part) (u : AbstractWord) → AsNodes p k S q u → In u (nodes_in p k G q)
    in_part_of q u (node_tag x) = in_left _ _ x
    in_part_of q u (node_field x) = in_left _ _ x
    in_part_of q u (words_tag {t = t} {m = m} x e en)
        = in_right (G tags) (flat_map (tag_of_words p k) (G (word 0)))
        (in_flat (tag_of_words p k) (G (word 0)) x
        (in_when (tag_fits_in_words k (fields_of p t)) (tag t ∷ [])
        (ap (tag_fits_in_words k) e ∙ is_enough k m en) here))
    in_part_of q u (words_field {t = t} {m = m} {i = i} x e en lt y) = in_right (G (field t i)) _
        (in_when (list_any (is_tag t) (G (word 0)) && tag_has_field k i (fields_of p t))
        (G (word (suc i)))
        (both (list_any (is_tag t) (G (word 0))) (tag_has_field k i (fields_of p t))
        (in_any (is_tag t) (G (word 0)) (tag t) x (eq_self t))
        (ap (tag_has_field k i) e ∙ both (words_hold_tag k m) (nat_lt i m) (is_enough k m en)
        (lt_true i m lt))) y)

    value_same : (q : Part) → SameMembers (value_part p H q v) (words_in_part q (value_nodes p H v))
    value_same q = record {
      into = λ u h. in_picked q (value_nodes p H v)
          (in_nodes p (value_items p H v) S (given_in v) k q u (part_means q u h));
      back = λ u h. in_part_of q u
          (nodes_mean p (value_items p H v) S (in_given v) k q u
          (picked_in q (value_nodes p H v) h));
    }

  stored_same : (q : Part) (o : Option Val) → SameMembers (stored_part p H q o)
      (words_in_part q (nodes_of p H o))
  stored_same q None = record { into = λ u h. h; back = λ u h. h }
  stored_same q (Some v) = value_same v q

-- all that is known at a place
module _ (p : Tables) (vs : List (Option Val)) (f : Facts) (s : Stored) (q : Part) where
  module _ (n : ℕ) where
    abbrev X : List Item
    X = held f (site n)

    abbrev nodes : ℕ → List Item
    nodes m = nodes_of p (held f) (value_at vs m)

    abbrev words : ℕ → List AbstractWord
    words m = stored_part p (held f) q (value_at vs m)

    abbrev ns : List ℕ
    ns = stored_at s n

    site_into : (u : AbstractWord) → In u (place_part p vs f s (site n) q)
        → In u (words_in_part q (whole p vs f s (site n)))
    site_into u h = in_picked q (whole p vs f s (site n)) (⊎_elim
        (λ a. in_left X (stored_nodes p vs (held f) ns) (picked_in q X a))
        (λ b. let r = flat_in words ns b in in_right X (stored_nodes p vs (held f) ns)
        (in_flat nodes ns r.1
        (picked_in q (nodes r.0) ((stored_same p (held f) q (value_at vs r.0)).into u r.2))))
        (in_split (words_in_part q X) (part_of_values p vs (held f) q ns) h))

    site_back : (u : AbstractWord) → In u (words_in_part q (whole p vs f s (site n)))
        → In u (place_part p vs f s (site n) q)
    site_back u h = ⊎_elim
        (λ a. in_left (words_in_part q X) (part_of_values p vs (held f) q ns) (in_picked q X a))
        (λ b. let r = flat_in nodes ns b in in_right (words_in_part q X)
        (part_of_values p vs (held f) q ns)
        (in_flat words ns r.1
        ((stored_same p (held f) q (value_at vs r.0)).back u (in_picked q (nodes r.0) r.2))))
        (in_split X (stored_nodes p vs (held f) ns) (picked_in q (whole p vs f s (site n)) h))

  pub place_same : (r : Place) (us : List AbstractWord) → SameMembers us (place_part p vs f s r q)
      → SameMembers us (words_in_part q (whole p vs f s r))
  place_same (site n) us m = record
      { into = λ u h. site_into n u (m.into u h); back = λ u h. m.back u (site_back n u h) }
  place_same (var n) us m = m
  place_same (result n) us m = m

-- what is read from the words of a part
module _ (H : Place → List Item) (r : Place) (q : Part) (us : List AbstractWord)
    (same : SameMembers us (words_in_part q (H r))) where
  word_exact : (u : AbstractWord) → (In u us → At (solution_of H) r q u)
      × (At (solution_of H) r q u → In u us)
  word_exact u = (
    λ h. known_at H r q u (picked_in q (H r) (same.into u h)),
    λ a. same.back u (in_picked q (H r) (at_known H r q u a)),
  )

  pub tags_exact : (ts : List ℕ) → SameSet ts (flat_map tag_in us) → (t : ℕ)
      → (In t ts → At (solution_of H) r q (tag t)) × (At (solution_of H) r q (tag t) → In t ts)
  tags_exact ts s t = (
    λ h. let x = flat_in tag_in us (s.to t h) in (word_exact (tag t)).0
        (subst (λ u. In u us) (tag_is x.0 t x.2) x.1),
    λ a. s.from t (in_flat tag_in us ((word_exact (tag t)).1 a) here),
  )

  pub sites_exact : (ss : List ℕ) → SameSet ss (flat_map site_in us) → (n : ℕ)
      → (In n ss → At (solution_of H) r q (cell_of n))
      × (At (solution_of H) r q (cell_of n) → In n ss)
  sites_exact ss s n = (
    λ h. let x = flat_in site_in us (s.to n h) in (word_exact (cell_of n)).0
        (subst (λ u. In u us) (site_is x.0 n x.2) x.1),
    λ a. s.from n (in_flat site_in us ((word_exact (cell_of n)).1 a) here),
  )

  pub number_exact : (set : Bits) (b : Bool) → words_in set ≡ us
      → (IsTrue b → In 0 (numbers_in set)) × (In 0 (numbers_in set) → IsTrue b)
      → (IsTrue b → At (solution_of H) r q num) × (At (solution_of H) r q num → IsTrue b)
  number_exact set b e t = (
    λ h. (word_exact num).0
        (subst (In num) (sym (words_of set) ∙ e) (in_map word_of (numbers_in set) (t.0 h))),
    λ a. let x = map_in word_of (numbers_in set)
        (subst (In num) (sym e ∙ words_of set) ((word_exact num).1 a)) in
        t.1 (subst (λ n. In n (numbers_in set)) (sym (number_word x.0) ∙ ap number_of (sym x.2))
        x.1),
  )
