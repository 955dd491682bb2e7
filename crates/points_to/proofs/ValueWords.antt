-- The words that are fetched from a value are those of the nodes that it stands for.
use Rattle.std.proofs.Common.{◌≡◌, ◌+◌, ◌<◌, ◌≤◌, ℕ, zero, suc, Bool, true, false, cond, not, ◌&&◌, nat_lt, List, [], ◌∷◌, length, Option, Some, None, slice_get, refl, sym, ap, ◌∙◌, subst, ⊎_elim, arith}
use Rattle.std.specs.List.{flat_map, list_any}
use Rattle.grin_syntax.specs.declared.program.TagId.{TagId}
use Rattle.grin_syntax.specs.declared.program.Word as W
use Rattle.grin_syntax.specs.declared.program.Val.{Val}
use Rattle.grin_syntax.specs.declared.program.Val.TheVariants.{NodeVar, Node as NodeVal, Vector as VectorVal, One as OneVal}
use Rattle.flow_system.specs.declared.fact.Element.{Element as AbstractWord}
use Rattle.flow_system.specs.declared.fact.Element.TheVariants.{Cell as cell_of, Tag as tag, Number as num}
use Rattle.flow_system.specs.declared.fact.Place.{Place}
use Rattle.flow_system.specs.declared.fact.Part.{Part}
use Rattle.flow_system.specs.declared.fact.Part.TheVariants.{Tags as tags, Field as field, Word as word}
use Rattle.flow_system.specs.Tables.{Tables, fields_of}
use Rattle.flow_system.specs.Solution.{Sets, AsNodes, node_tag, node_field, words_tag, words_field}
use Rattle.points_to.specs.declared.facts.Item.{Item}
use Rattle.points_to.specs.Held.{In, here, there, item, words_in_part, in_part, fetched, elements, numbered, value_items}
use Rattle.points_to.specs.Rows.{SameMembers}
use Rattle.points_to.specs.Stored.{value_nodes}
use Rattle.points_to.specs.Kept.{has_no_node_variable}
use Rattle.points_to.specs.ValueWords.{fits, reaches, lacks, fitting, has_field, has_fewer, elements_of, node_field as node_field_words, node_words, vector_words, value_words}
use Rattle.seq.proofs.Member.{none_in, cons_in, one_in, in_left, in_right, in_split, when_in, in_when, in_flat, flat_in, in_map, map_in}
use Rattle.seq.proofs.Order.{lt_from, lt_true, le_from, lt_false}
use Rattle.seq.proofs.Truth.{and_parts}
use Rattle.points_to.proofs.GivenItems.{Fetched, the_tag, a_field, a_zero, picked_in, in_picked, fetched_means, in_fetched, nodes_mean, in_nodes}
use Rattle.points_to.proofs.Spotted.{in_any, any_in}

pub both : (a b : Bool) → a ≡ true → b ≡ true → (a && b) ≡ true
both a b e q = ap (λ x. x && b) e ∙ q

not_false : (b : Bool) → not b ≡ true → b ≡ false
not_false true e = cc
not_false false e = refl

-- by the number of fields of a tag
fits_is : (k : ℕ) (o : Option ℕ) → fits k o ≡ true → (m : ℕ) × (o ≡ Some m) × (m < k)
fits_is k None e = cc
fits_is k (Some m) e = (m, refl, lt_from m k e)

reaches_is : (k j : ℕ) (o : Option ℕ) → reaches k j o ≡ true → (m : ℕ) × (o ≡ Some m) × (m < k)
    × (j < m)
reaches_is k j None e = cc
reaches_is k j (Some m) e = let r = and_parts (nat_lt m k) (nat_lt j m) e
    in (m, refl, lt_from m k r.0, lt_from j m r.1)

lacks_is : (k j : ℕ) (o : Option ℕ) → lacks k j o ≡ true → (m : ℕ) × (o ≡ Some m) × (m < k)
    × (m ≤ j)
lacks_is k j None e = cc
lacks_is k j (Some m) e = let r = and_parts (nat_lt m k) (not (nat_lt j m)) e
    in (m, refl, lt_from m k r.0, le_from j m (not_false (nat_lt j m) r.1))

module _ (p : Tables) (H : Place → List Item) where
  -- words that are numbered
  pub numbered_at : (at : ℕ → Part) (k : ℕ) (ws : List W.Word) (j n : ℕ) (u : AbstractWord)
      → n ≡ k + j → In u (elements_of p H (slice_get ws j))
      → In (item (at n) u) (numbered p H at k ws)
  numbered_at at k [] j n u e h = none_in h
  numbered_at at k (w ∷ ws) zero n u e h =
      let same : k ≡ n = omega (arith, e) in
      subst (λ n. In (item (at n) u) (numbered p H at k (w ∷ ws))) same
      (in_left (in_part (at k) (elements p H w)) (numbered p H at (suc k) ws)
      (in_map (item (at k)) (elements p H w) h))
  numbered_at at k (w ∷ ws) (suc j) n u e h = in_right (in_part (at k) (elements p H w))
      (numbered p H at (suc k) ws) (numbered_at at (suc k) ws j n u (omega (arith, e)) h)

  pub at_numbered : (at : ℕ → Part) (k : ℕ) (ws : List W.Word) (q : Part) (u : AbstractWord)
      → In (item q u) (numbered p H at k ws) → (j : ℕ) × (n : ℕ) × (n ≡ k + j) × (q ≡ at n)
      × In u (elements_of p H (slice_get ws j))
  at_numbered at k [] q u h = none_in h
  at_numbered at k (w ∷ ws) q u h = ⊎_elim
      (λ a. let r = map_in (item (at k)) (elements p H w) a
      in (
        0,
        k,
        omega arith,
        ap (λ i. i.part) r.2,
        subst (λ x. In x (elements p H w)) (sym (ap (λ i. i.word) r.2)) r.1,
      ))
      (λ b. let r = at_numbered at (suc k) ws q u b in (suc r.0, r.1, omega (arith, r.2), r.3, r.4))
      (in_split (in_part (at k) (elements p H w)) (numbered p H at (suc k) ws) h)

  -- ---- a vector
  module _ (ws : List W.Word) where
    abbrev k : ℕ
    k = length ws

    abbrev I : List Item
    I = numbered p H word 0 ws

    abbrev S : Sets
    S q u = In (item q u) I

    abbrev X : List Item
    X = value_nodes p H (VectorVal ws)

    abbrev N : Sets
    N q u = In (item q u) X

    abbrev first : List AbstractWord
    first = elements_of p H (slice_get ws 0)

    pub no_tags : {P : Type 0} (u : AbstractWord) → S tags u → P
    no_tags u h = let r = at_numbered word 0 ws tags u h in let e : tags ≡ word r.1 = r.3 in cc

    pub no_fields : {P : Type 0} (t i : ℕ) (u : AbstractWord) → S (field t i) u → P
    no_fields t i u h = let r = at_numbered word 0 ws (field t i) u h in let e
        : field t i ≡ word r.1 = r.3 in cc

    pub word_is : (j : ℕ) (u : AbstractWord) → S (word j) u
        → In u (elements_of p H (slice_get ws j))
    word_is j u h =
        let r = at_numbered word 0 ws (word j) u h in
        let e : word j ≡ word r.1 = r.3 in
        let same : j ≡ r.1 = cc in
        subst (λ i. In u (elements_of p H (slice_get ws i))) (omega (arith, same, r.2)) r.4

    nodes_of : (q : Part) (u : AbstractWord) → N q u → AsNodes p (Some k) S q u
    nodes_of q u h = nodes_mean p I S (λ q u h. h) (Some k) q u h

    of_nodes : (q : Part) (u : AbstractWord) → AsNodes p (Some k) S q u → N q u
    of_nodes q u a = in_nodes p I S (λ q u h. h) (Some k) q u a

    -- the tags of its nodes
    tag_is : (q : Part) (u : AbstractWord) → AsNodes p (Some k) S q u → q ≡ tags → (t : ℕ) × (m : ℕ)
        × (u ≡ tag t) × (fields_of p t ≡ Some m) × (m < k) × In (tag t) first
    tag_is q u (node_tag x) e = no_tags u x
    tag_is q u (node_field x) e = cc
    tag_is q u (words_tag {t = t} {m = m} x d en) e = (t, m, refl, d, en, word_is 0 (tag t) x)
    tag_is q u (words_field x d en lt y) e = cc

    is_tag : (t m : ℕ) → fields_of p t ≡ Some m → m < k → In (tag t) first → N tags (tag t)
    is_tag t m d lt h = of_nodes tags (tag t)
        (words_tag (numbered_at word 0 ws 0 0 (tag t) (omega arith) h) d lt)

    field_is : (q : Part) (u : AbstractWord) → AsNodes p (Some k) S q u → (t j : ℕ) → q ≡ field t j
        → In u (elements_of p H (slice_get ws (suc j)))
    field_is q u (node_tag x) t j e = cc
    field_is q u (node_field {t = t'} {i = i} x) t j e = no_fields t' i u x
    field_is q u (words_tag x d en) t j e = cc
    field_is q u (words_field {i = i} x d en lt y) t j e = let same : i ≡ j = cc
        in subst (λ n. In u (elements_of p H (slice_get ws (suc n)))) same (word_is (suc i) u y)

    is_field : (t m j : ℕ) (u : AbstractWord) → fields_of p t ≡ Some m → m < k → j < m
        → In (tag t) first → In u (elements_of p H (slice_get ws (suc j))) → N (field t j) u
    is_field t m j u d lt less h y =
        of_nodes (field t j) u
        (words_field (numbered_at word 0 ws 0 0 (tag t) (omega arith) h) d lt less
        (numbered_at word 0 ws (suc j) (suc j) u (omega arith) y))

    only : (q : Part) (u : AbstractWord) → In (item q u) X → N q u
    only q u h = h

    all : (q : Part) (u : AbstractWord) → N q u → In (item q u) X
    all q u h = h

    tags_same : SameMembers (flat_map (fitting p k) first) (words_in_part tags X)
    tags_same = record {
      into = λ u h. let r = flat_in (fitting p k) first h in in_picked tags X (put u r.0 r.1 r.2);
      back = λ u h. let r = tag_is tags u (nodes_of tags u (picked_in tags X h)) refl in
          subst (λ x. In x (flat_map (fitting p k) first)) (sym r.2)
          (in_flat (fitting p k) first r.5
          (in_when (fits k (fields_of p r.0)) (tag r.0 ∷ [])
          (ap (fits k) r.3 ∙ lt_true r.1 k r.4) here));
    }
      where
        put : (u w : AbstractWord) → In w first → In u (fitting p k w) → N tags u
        put u (cell_of s) h y = none_in y
        put u num h y = none_in y
        put u (tag t) h y =
            let w = when_in (fits k (fields_of p t)) (tag t ∷ []) y in
            let f = fits_is k (fields_of p t) w.0 in
            subst (λ x. N tags x) (sym (one_in (tag t) w.1)) (is_tag t f.0 f.1 f.2 h)

    -- a tag that has the field, or has fewer
    has_is : (j : ℕ) (w : AbstractWord) → has_field p k j w ≡ true → (t : ℕ) × (m : ℕ) × (w ≡ tag t)
        × (fields_of p t ≡ Some m) × (m < k) × (j < m)
    has_is j (cell_of s) e = cc
    has_is j num e = cc
    has_is j (tag t) e = let r = reaches_is k j (fields_of p t) e in (t, r.0, refl, r.1, r.2, r.3)

    fewer_is : (j : ℕ) (w : AbstractWord) → has_fewer p k j w ≡ true → (t : ℕ) × (m : ℕ)
        × (w ≡ tag t) × (fields_of p t ≡ Some m) × (m < k) × (m ≤ j)
    fewer_is j (cell_of s) e = cc
    fewer_is j num e = cc
    fewer_is j (tag t) e = let r = lacks_is k j (fields_of p t) e in (t, r.0, refl, r.1, r.2, r.3)

    abbrev has : ℕ → Bool
    has j = list_any (has_field p k j) first

    abbrev fewer : ℕ → Bool
    fewer j = list_any (has_fewer p k j) first

    abbrev us : ℕ → List AbstractWord
    us j = elements_of p H (slice_get ws (suc j))

    fields_into : (j : ℕ) (u : AbstractWord) → In u (vector_words p H ws (suc j))
        → Fetched p N (suc j) u
    fields_into j u h = ⊎_elim
        (λ a.
        let w = when_in (has j) (us j) a in
        let t = any_in (has_field p k j) first w.0 in
        let r = has_is j t.0 t.2 in
        let there_is = subst (λ x. In x first) r.2 t.1 in
        a_field (is_tag r.0 r.1 r.3 r.4 there_is) r.3 r.5
        (is_field r.0 r.1 j u r.3 r.4 r.5 there_is w.1))
        (λ b.
        let w = when_in (fewer j) (num ∷ []) b in
        let t = any_in (has_fewer p k j) first w.0 in
        let r = fewer_is j t.0 t.2 in
        subst (Fetched p N (suc j)) (sym (one_in num w.1))
        (a_zero (is_tag r.0 r.1 r.3 r.4 (subst (λ x. In x first) r.2 t.1)) r.3 r.5))
        (in_split (cond (has j) (us j) []) (cond (fewer j) (num ∷ []) []) h)

    fields_back : (i j : ℕ) (u : AbstractWord) → Fetched p N i u → i ≡ suc j
        → In u (vector_words p H ws (suc j))
    fields_back i j u (the_tag x) e = absurd (omega (arith, e))
    fields_back i j u (a_field {t = t} {m = m} {i = n} x d lt y) e =
        let same : n ≡ j = omega (arith, e) in
        let r = tag_is tags (tag t) (nodes_of tags (tag t) x) refl in
        let t_is : t ≡ r.0 = cc in
        let m_is : m ≡ r.1 = let q : Some m ≡ Some r.1 = sym d ∙ ap (fields_of p) t_is ∙ r.3 in cc
        in
        let less : m < k = subst (λ n. n < k) (sym m_is) r.4 in
        let there_is = subst (λ n. In (tag n) first) (sym t_is) r.5 in
        let reached : has_field p k j (tag t) ≡ true
        = ap (reaches k j) d ∙ both (nat_lt m k) (nat_lt j m) (lt_true m k less)
        (lt_true j m (subst (λ n. n < m) same lt)) in
        in_left (cond (has j) (us j) []) (cond (fewer j) (num ∷ []) [])
        (in_when (has j) (us j) (in_any (has_field p k j) first (tag t) there_is reached)
        (subst (λ n. In u (us n)) same
        (field_is (field t n) u (nodes_of (field t n) u y) t n refl)))
    fields_back i j u (a_zero {t = t} {m = m} {i = n} x d le) e =
        let same : n ≡ j = omega (arith, e) in
        let r = tag_is tags (tag t) (nodes_of tags (tag t) x) refl in
        let t_is : t ≡ r.0 = cc in
        let m_is : m ≡ r.1 = let q : Some m ≡ Some r.1 = sym d ∙ ap (fields_of p) t_is ∙ r.3 in cc
        in
        let less : m < k = subst (λ n. n < k) (sym m_is) r.4 in
        let there_is = subst (λ n. In (tag n) first) (sym t_is) r.5 in
        let lacking : has_fewer p k j (tag t) ≡ true
        = ap (lacks k j) d ∙ both (nat_lt m k) (not (nat_lt j m)) (lt_true m k less)
        (ap not (lt_false j m (subst (λ n. m ≤ n) same le))) in
        in_right (cond (has j) (us j) []) (cond (fewer j) (num ∷ []) [])
        (in_when (fewer j) (num ∷ []) (in_any (has_fewer p k j) first (tag t) there_is lacking)
        here)

    vector_same : (i : ℕ) → SameMembers (vector_words p H ws i) (fetched p i X)
    vector_same zero = tags_same
    vector_same (suc j) = record {
      into = λ u h. in_fetched p X N all (suc j) u (fields_into j u h);
      back = λ u h. fields_back (suc j) j u (fetched_means p X N only (suc j) u h) refl;
    }

    vector_has_tag : (t j : ℕ) (u : AbstractWord) → N (field t j) u → N tags (tag t)
    vector_has_tag t j u h = go (field t j) u (nodes_of (field t j) u h) refl
      where
        go : (q : Part) (u : AbstractWord) → AsNodes p (Some k) S q u → q ≡ field t j
            → N tags (tag t)
        go q u (node_tag x) e = cc
        go q u (node_field {t = t'} {i = i} x) e = no_fields t' i u x
        go q u (words_tag x d en) e = cc
        go q u (words_field {t = t'} {m = m} x d en lt y) e = let same : t' ≡ t = cc
            in subst (λ n. N tags (tag n)) same (is_tag t' m d en (word_is 0 (tag t') x))

  -- ---- a node
  module _ (t : TagId) (ws : List W.Word) where
    abbrev given : List Item
    given = value_items p H (NodeVal t ws)

    abbrev G : Sets
    G q u = In (item q u) given

    abbrev made : List Item
    made = value_nodes p H (NodeVal t ws)

    abbrev M : Sets
    M q u = In (item q u) made

    pub its_tag_is : (u : AbstractWord) → G tags u → u ≡ tag t.0
    its_tag_is u h = ⊎_elim
        (λ a. ap (λ i. i.word) a)
        (λ b. let r = at_numbered (field t.0) 0 ws tags u b in let e : tags ≡ field t.0 r.1 = r.3
        in cc)
        (cons_in (item tags (tag t.0)) (numbered p H (field t.0) 0 ws) h)

    pub no_words : {P : Type 0} (j : ℕ) (u : AbstractWord) → G (word j) u → P
    no_words j u h = ⊎_elim
        (λ a. let e : word j ≡ tags = ap (λ i. i.part) a in cc)
        (λ b. let r = at_numbered (field t.0) 0 ws (word j) u b in let e : word j ≡ field t.0 r.1
        = r.3 in cc)
        (cons_in (item tags (tag t.0)) (numbered p H (field t.0) 0 ws) h)

    pub its_field_is : (t' i : ℕ) (u : AbstractWord) → G (field t' i) u → (t' ≡ t.0)
        × In u (elements_of p H (slice_get ws i))
    its_field_is t' i u h = ⊎_elim
        (λ a. let e : field t' i ≡ tags = ap (λ i. i.part) a in cc)
        (λ b.
        let r = at_numbered (field t.0) 0 ws (field t' i) u b in
        let e : field t' i ≡ field t.0 r.1 = r.3 in
        let same : t' ≡ t.0 = cc in
        let n : i ≡ r.1 = cc in
        (same, subst (λ k. In u (elements_of p H (slice_get ws k))) (omega (arith, n, r.2)) r.4))
        (cons_in (item tags (tag t.0)) (numbered p H (field t.0) 0 ws) h)

    given_of : (q : Part) (u : AbstractWord) → M q u → AsNodes p (Some 1) G q u
    given_of q u h = nodes_mean p given G (λ q u h. h) (Some 1) q u h

    of_given : (q : Part) (u : AbstractWord) → AsNodes p (Some 1) G q u → M q u
    of_given q u a = in_nodes p given G (λ q u h. h) (Some 1) q u a

    the_tag_is : (q : Part) (u : AbstractWord) → AsNodes p (Some 1) G q u → q ≡ tags → u ≡ tag t.0
    the_tag_is q u (node_tag x) e = its_tag_is u x
    the_tag_is q u (node_field x) e = cc
    the_tag_is q u (words_tag {t = t'} x d en) e = no_words 0 (tag t') x
    the_tag_is q u (words_field x d en lt y) e = cc

    has_the_tag : M tags (tag t.0)
    has_the_tag = of_given tags (tag t.0) (node_tag here)

    the_field_is : (q : Part) (u : AbstractWord) → AsNodes p (Some 1) G q u → (t' j : ℕ)
        → q ≡ field t' j → (t' ≡ t.0) × In u (elements_of p H (slice_get ws j))
    the_field_is q u (node_tag x) t' j e = cc
    the_field_is q u (node_field {t = s} {i = i} x) t' j e = let e1 : s ≡ t' = cc in let e2 : i ≡ j
        = cc in let r = its_field_is s i u x in
        (sym e1 ∙ r.0, subst (λ k. In u (elements_of p H (slice_get ws k))) e2 r.1)
    the_field_is q u (words_tag x d en) t' j e = cc
    the_field_is q u (words_field {t = s} x d en lt y) t' j e = no_words 0 (tag s) x

    has_field_at : (j : ℕ) (u : AbstractWord) → In u (elements_of p H (slice_get ws j))
        → M (field t.0 j) u
    has_field_at j u h = of_given (field t.0 j) u
        (node_field (there (numbered_at (field t.0) 0 ws j j u (omega arith) h)))

    every : (q : Part) (u : AbstractWord) → M q u → M q u
    every q u h = h

    node_into : (j : ℕ) (u : AbstractWord) → In u (node_words p H t.0 ws (suc j))
        → Fetched p M (suc j) u
    node_into j u h = go (fields_of p t.0) refl h
      where
        go : (o : Option ℕ) → fields_of p t.0 ≡ o → In u (node_field_words p H ws j o)
            → Fetched p M (suc j) u
        go None e h = none_in h
        go (Some m) e h = on (nat_lt j m) refl h
          where
            on : (b : Bool) → nat_lt j m ≡ b → In u
                (cond b (elements_of p H (slice_get ws j)) (num ∷ [])) → Fetched p M (suc j) u
            on true l h = a_field has_the_tag e (lt_from j m l) (has_field_at j u h)
            on false l h = subst (Fetched p M (suc j)) (sym (one_in num h))
                (a_zero has_the_tag e (le_from j m l))

    node_back : (i j : ℕ) (u : AbstractWord) → Fetched p M i u → i ≡ suc j
        → In u (node_words p H t.0 ws (suc j))
    node_back i j u (the_tag x) e = absurd (omega (arith, e))
    node_back i j u (a_field {t = t'} {m = m} {i = n} x d lt y) e =
        let same : n ≡ j = omega (arith, e) in
        let r = the_field_is (field t' n) u (given_of (field t' n) u y) t' n refl in
        let fields : fields_of p t.0 ≡ Some m = ap (fields_of p) (sym r.0) ∙ d in
        subst (λ o. In u (node_field_words p H ws j o)) (sym fields)
        (subst (λ b. In u (cond b (elements_of p H (slice_get ws j)) (num ∷ [])))
        (sym (lt_true j m (subst (λ n. n < m) same lt)))
        (subst (λ n. In u (elements_of p H (slice_get ws n))) same r.1))
    node_back i j u (a_zero {t = t'} {m = m} {i = n} x d le) e =
        let same : n ≡ j = omega (arith, e) in
        let q : tag t' ≡ tag t.0 = the_tag_is tags (tag t') (given_of tags (tag t') x) refl in
        let t_is : t' ≡ t.0 = cc in
        let fields : fields_of p t.0 ≡ Some m = ap (fields_of p) (sym t_is) ∙ d in
        subst (λ o. In num (node_field_words p H ws j o)) (sym fields)
        (subst (λ b. In num (cond b (elements_of p H (slice_get ws j)) (num ∷ [])))
        (sym (lt_false j m (subst (λ n. m ≤ n) same le))) here)

    node_same : (i : ℕ) → SameMembers (node_words p H t.0 ws i) (fetched p i made)
    node_same zero = record {
      into = λ u h. subst (λ x. In x (words_in_part tags made)) (sym (one_in (tag t.0) h))
          (in_picked tags made has_the_tag);
      back = λ u h. subst (λ x. In x (tag t.0 ∷ []))
          (sym (the_tag_is tags u (given_of tags u (picked_in tags made h)) refl)) here;
    }
    node_same (suc j) = record {
      into = λ u h. in_fetched p made M every (suc j) u (node_into j u h);
      back = λ u h. node_back (suc j) j u (fetched_means p made M every (suc j) u h) refl;
    }

    node_has_tag : (s j : ℕ) (u : AbstractWord) → M (field s j) u → M tags (tag s)
    node_has_tag s j u h = let r = the_field_is (field s j) u (given_of (field s j) u h) s j refl
        in subst (λ n. M tags (tag n)) (sym r.0) has_the_tag

  -- ---- any value
  pub words_same : (v : Val) (i : ℕ) → SameMembers (value_words p H v i)
      (fetched p i (value_nodes p H v))
  words_same (NodeVar x) i = record { into = λ u h. h; back = λ u h. h }
  words_same (NodeVal t ws) i = node_same t ws i
  words_same (VectorVal ws) i = vector_same ws i
  words_same (OneVal w) i = record { into = λ u h. h; back = λ u h. h }

  -- a field of a node of a value has its tag
  one_has_tag : (w : W.Word) (t j : ℕ) (u : AbstractWord)
      → In (item (field t j) u) (value_nodes p H (OneVal w))
      → In (item tags (tag t)) (value_nodes p H (OneVal w))
  one_has_tag w t j u h = go
      (nodes_mean p X (λ q y. In (item q y) X) (λ q y z. z) (Some 1) (field t j) u h)
    where
      X : List Item
      X = in_part (word 0) (elements p H w)

      clash : (y : AbstractWord) → item (field t j) u ≡ item (word 0) y
          → In (item tags (tag t)) (value_nodes p H (OneVal w))
      clash y e = let q : field t j ≡ word 0 = ap (λ i. i.part) e in cc

      go : AsNodes p (Some 1) (λ q y. In (item q y) X) (field t j) u
          → In (item tags (tag t)) (value_nodes p H (OneVal w))
      go (node_field x) = let r = map_in (item (word 0)) (elements p H w) x in clash r.0 r.2
      go (words_field x e en lt y) = in_nodes p X (λ q y. In (item q y) X) (λ q y z. z) (Some 1)
          tags (tag t) (words_tag x e en)

  pub has_tag : (v : Val) → has_no_node_variable v ≡ true → (t j : ℕ) (u : AbstractWord)
      → In (item (field t j) u) (value_nodes p H v) → In (item tags (tag t)) (value_nodes p H v)
  has_tag (NodeVar x) e t j u h = cc
  has_tag (NodeVal t' ws) e t j u h = node_has_tag t' ws t j u h
  has_tag (VectorVal ws) e t j u h = vector_has_tag ws t j u h
  has_tag (OneVal w) e t j u h = one_has_tag w t j u h
