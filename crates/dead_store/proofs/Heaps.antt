-- Heaps whose sites are the first ones of another, and what is kept of them.
use Rattle.std.proofs.Common.{◌≡◌, ℕ, zero, suc, ◌≤◌, List, [], ◌∷◌, ◌++◌, length, Bool, true, false, cond, Some, slice_get, slice_set, refl, sym, ap, ◌∙◌, arith}
use Rattle.grin_meaning.specs.Values.{Datum, Node, HeapCell}
use Rattle.seq.proofs.Lists.{some_is, none_is_some}
use Rattle.dead_store.specs.Kept.{rank, stays_at, map_node_fields, kept_with}

-- the sites of the first heap are the first ones of the second
abbrev pub Begins : List HeapCell → List HeapCell → Type 0
Begins [] F = Unit {0}
Begins (c ∷ h) [] = ⊥
Begins (c ∷ h) (e ∷ F) = (e.site ≡ c.site) × Begins h F

pub begins_self : (h : List HeapCell) → Begins h h
begins_self [] = tt
begins_self (c ∷ h) = (refl, begins_self h)

pub begins_on : (h h' F : List HeapCell) → Begins h h' → Begins h' F → Begins h F
begins_on [] h' F b k = tt
begins_on (c ∷ h) [] F b k = absurd b
begins_on (c ∷ h) (d ∷ h') [] b k = absurd k
begins_on (c ∷ h) (d ∷ h') (e ∷ F) b k = (k.0 ∙ b.0, begins_on h h' F b.1 k.1)

pub begins_more : (h hs : List HeapCell) → Begins h (h ++ hs)
begins_more [] hs = tt
begins_more (c ∷ h) hs = (refl, begins_more h hs)

pub begins_set : (h : List HeapCell) (i : ℕ) (y : HeapCell) (n : Node) → slice_get h i ≡ Some y
    → Begins h (slice_set h i (record { site = y.site; node = n }))
begins_set [] i y n e = tt
begins_set (c ∷ h) zero y n e = (ap (λ z. z.site) (sym (some_is e)), begins_self h)
begins_set (c ∷ h) (suc i) y n e = (refl, begins_set h i y n e)

-- the sites of these heaps are the same
abbrev pub SameSites : List HeapCell → List HeapCell → Type 0
SameSites h h' = Begins h h' × Begins h' h

module _ (stays : ℕ → Bool) where
  module _ (f : Datum → Datum) where
    abbrev pub cell_to : HeapCell → HeapCell
    cell_to c = record { site = c.site; node = map_node_fields f c.node }

    pub kept_append : (h hs : List HeapCell) → kept_with stays f (h ++ hs) ≡ kept_with stays f h
        ++ kept_with stays f hs
    kept_append [] hs = refl
    kept_append (c ∷ h) hs = go (stays c.site) (kept_append h hs)
      where
        go : (b : Bool) → kept_with stays f (h ++ hs) ≡ kept_with stays f h ++ kept_with stays f hs
            → cond b (cell_to c ∷ kept_with stays f (h ++ hs)) (kept_with stays f (h ++ hs)) ≡ cond
            b (cell_to c ∷ kept_with stays f h) (kept_with stays f h) ++ kept_with stays f hs
        go true e = ap (λ l. cell_to c ∷ l) e
        go false e = e

    pub kept_fewer : (h : List HeapCell) → length (kept_with stays f h) ≤ length h
    kept_fewer [] = omega arith
    kept_fewer (c ∷ h) = go (stays c.site) (kept_fewer h)
      where
        go : (b : Bool) → length (kept_with stays f h) ≤ length h
            → length (cond b (cell_to c ∷ kept_with stays f h) (kept_with stays f h)) ≤ suc
            (length h)
        go true le = omega (arith, le)
        go false le = omega (arith, le)

    pub kept_one : (c : HeapCell) (h : List HeapCell) → stays c.site ≡ true
        → kept_with stays f (c ∷ h) ≡ cell_to c ∷ kept_with stays f h
    kept_one c h e = ap (λ b. cond b (cell_to c ∷ kept_with stays f h) (kept_with stays f h)) e

    -- ---- by the number of a cell among those that stay

    pub rank_length : (h F : List HeapCell) → Begins h F
        → rank stays F (length h) ≡ length (kept_with stays f h)
    rank_length [] [] b = refl
    rank_length [] (e ∷ F) b = refl
    rank_length (c ∷ h) [] b = absurd b
    rank_length (c ∷ h) (e ∷ F) b = ap
        (λ s. cond (stays s) (suc (rank stays F (length h))) (rank stays F (length h))) b.0 ∙ go
        (stays c.site) (rank_length h F b.1)
      where
        go : (t : Bool) → rank stays F (length h) ≡ length (kept_with stays f h)
            → cond t (suc (rank stays F (length h))) (rank stays F (length h)) ≡ length
            (cond t (cell_to c ∷ kept_with stays f h) (kept_with stays f h))
        go true r = ap suc r
        go false r = r

    pub kept_get : (h F : List HeapCell) (i : ℕ) (y : HeapCell) → Begins h F
        → slice_get h i ≡ Some y → stays y.site ≡ true
        → slice_get (kept_with stays f h) (rank stays F i) ≡ Some (cell_to y)
    kept_get [] F i y b e s = none_is_some e
    kept_get (c ∷ h) [] i y b e s = absurd b
    kept_get (c ∷ h) (d ∷ F) zero y b e s = ap (λ l. slice_get l 0)
        (kept_one c h (ap (λ z. stays z.site) (some_is e) ∙ s)) ∙ ap (λ z. Some (cell_to z))
        (some_is e)
    kept_get (c ∷ h) (d ∷ F) (suc i) y b e s =
        ap (λ t. slice_get (kept_with stays f (c ∷ h))
        (cond (stays t) (suc (rank stays F i)) (rank stays F i))) b.0 ∙ go (stays c.site)
        (kept_get h F i y b.1 e s)
      where
        go : (t : Bool) → slice_get (kept_with stays f h) (rank stays F i) ≡ Some (cell_to y)
            → slice_get (cond t (cell_to c ∷ kept_with stays f h) (kept_with stays f h))
            (cond t (suc (rank stays F i)) (rank stays F i)) ≡ Some (cell_to y)
        go true r = r
        go false r = r

    pub kept_set : (h F : List HeapCell) (i : ℕ) (y : HeapCell) (n : Node) → Begins h F
        → slice_get h i ≡ Some y → stays y.site ≡ true
        → kept_with stays f (slice_set h i (record { site = y.site; node = n })) ≡ slice_set
        (kept_with stays f h) (rank stays F i)
        (record { site = y.site; node = map_node_fields f n })
    kept_set [] F i y n b e s = none_is_some e
    kept_set (c ∷ h) [] i y n b e s = absurd b
    kept_set (c ∷ h) (d ∷ F) zero y n b e s =
        kept_one (record { site = y.site; node = n }) h s ∙ sym
        (ap (λ l. slice_set l 0 (record { site = y.site; node = map_node_fields f n }))
        (kept_one c h (ap (λ z. stays z.site) (some_is e) ∙ s)))
    kept_set (c ∷ h) (d ∷ F) (suc i) y n b e s =
        go (stays c.site) (kept_set h F i y n b.1 e s) ∙ ap
        (λ t. slice_set (kept_with stays f (c ∷ h))
        (cond (stays t) (suc (rank stays F i)) (rank stays F i))
        (record { site = y.site; node = map_node_fields f n })) (sym b.0)
      where
        go : (t : Bool) → kept_with stays f (slice_set h i (record { site = y.site; node = n })) ≡
            slice_set (kept_with stays f h) (rank stays F i)
            (record { site = y.site; node = map_node_fields f n })
            → cond t (cell_to c ∷ kept_with stays f
            (slice_set h i (record { site = y.site; node = n })))
            (kept_with stays f (slice_set h i (record { site = y.site; node = n })))
            ≡ slice_set (cond t (cell_to c ∷ kept_with stays f h) (kept_with stays f h))
            (cond t (suc (rank stays F i)) (rank stays F i))
            (record { site = y.site; node = map_node_fields f n })
        go true r = ap (λ l. cell_to c ∷ l) r
        go false r = r

  pub stays_get : (h F : List HeapCell) (i : ℕ) (y : HeapCell) → Begins h F → slice_get h i ≡ Some y
      → stays_at stays F i ≡ stays y.site
  stays_get [] F i y b e = none_is_some e
  stays_get (c ∷ h) [] i y b e = absurd b
  stays_get (c ∷ h) (d ∷ F) zero y b e = ap stays (b.0 ∙ ap (λ z. z.site) (some_is e))
  stays_get (c ∷ h) (d ∷ F) (suc i) y b e = stays_get h F i y b.1 e

  pub rank_next : (h F : List HeapCell) (i : ℕ) (y : HeapCell) → Begins h F → slice_get h i ≡ Some y
      → rank stays F (suc i) ≡ cond (stays y.site) (suc (rank stays F i)) (rank stays F i)
  rank_next [] F i y b e = none_is_some e
  rank_next (c ∷ h) [] i y b e = absurd b
  rank_next (c ∷ h) (d ∷ []) zero y b e = ap (λ s. cond (stays s) 1 0)
      (b.0 ∙ ap (λ z. z.site) (some_is e))
  rank_next (c ∷ h) (d ∷ d' ∷ F) zero y b e = ap (λ s. cond (stays s) 1 0)
      (b.0 ∙ ap (λ z. z.site) (some_is e))
  rank_next (c ∷ h) (d ∷ F) (suc i) y b e = go (stays d.site) (stays y.site)
      (rank_next h F i y b.1 e)
    where
      go : (s t : Bool) → rank stays F (suc i) ≡ cond t (suc (rank stays F i)) (rank stays F i)
          → cond s (suc (rank stays F (suc i))) (rank stays F (suc i)) ≡ cond t
          (suc (cond s (suc (rank stays F i)) (rank stays F i)))
          (cond s (suc (rank stays F i)) (rank stays F i))
      go true true r = ap suc r
      go true false r = ap suc r
      go false true r = r
      go false false r = r

  -- where the first ones all stay, their numbers are the same
  pub rank_same : (h F : List HeapCell) (i : ℕ) (y : HeapCell) → Begins h F
      → ((j : ℕ) (z : HeapCell) → slice_get h j ≡ Some z → stays z.site ≡ true)
      → slice_get h i ≡ Some y → rank stays F i ≡ i
  rank_same [] F i y b all e = none_is_some e
  rank_same (c ∷ h) [] i y b all e = absurd b
  rank_same (c ∷ h) (d ∷ F) zero y b all e = refl
  rank_same (c ∷ h) (d ∷ F) (suc i) y b all e =
      ap (λ t. cond t (suc (rank stays F i)) (rank stays F i)) (ap stays b.0 ∙ all 0 c refl) ∙ ap
      suc (rank_same h F i y b.1 (λ j z. all (suc j) z) e)
