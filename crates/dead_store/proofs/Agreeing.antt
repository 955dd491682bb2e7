-- Heaps that agree but for what the cells of some sites hold.
use Rattle.std.proofs.Common.{◌≡◌, ℕ, zero, suc, List, [], ◌∷◌, ◌++◌, length, Bool, true, false, Some, slice_get, slice_set, refl, ap, ◌∙◌}
use Rattle.grin_meaning.specs.Values.{Node, HeapCell}
use Rattle.seq.proofs.Lists.{some_is, none_is_some}
use Rattle.seq.proofs.Truth.{not_both}
use Rattle.dead_store.specs.Unread.{AgreeWhereFetched}

module _ (fetched : ℕ → Bool) where
  abbrev Agree : List HeapCell → List HeapCell → Type 0
  Agree = AgreeWhereFetched fetched

  pub agree_self : (h : List HeapCell) → Agree h h
  agree_self [] = tt
  agree_self (c ∷ h) = (refl, λ f. refl, agree_self h)

  pub agree_length : (h h' : List HeapCell) → Agree h h' → length h' ≡ length h
  agree_length [] [] a = refl
  agree_length [] (c' ∷ h') a = absurd a
  agree_length (c ∷ h) [] a = absurd a
  agree_length (c ∷ h) (c' ∷ h') a = ap suc (agree_length h h' a.2)

  pub agree_append : (h h' hs : List HeapCell) → Agree h h' → Agree (h ++ hs) (h' ++ hs)
  agree_append [] [] hs a = agree_self hs
  agree_append [] (c' ∷ h') hs a = absurd a
  agree_append (c ∷ h) [] hs a = absurd a
  agree_append (c ∷ h) (c' ∷ h') hs a = (a.0, a.1, agree_append h h' hs a.2)

  -- the cell that stands in the second where one stands in the first
  pub record Beside (y : HeapCell) (h' : List HeapCell) (i : ℕ) : Type 0 where
    pub y' : HeapCell
    pub there : slice_get h' i ≡ Some y'
    pub site : y'.site ≡ y.site
    pub same : fetched y.site ≡ true → y'.node ≡ y.node

  pub agree_get : (h h' : List HeapCell) (i : ℕ) (y : HeapCell) → Agree h h'
      → slice_get h i ≡ Some y → Beside y h' i
  agree_get [] h' i y a e = none_is_some e
  agree_get (c ∷ h) [] i y a e = absurd a
  agree_get (c ∷ h) (c' ∷ h') zero y a e =
      let same : c ≡ y = some_is e in
      record {
        y' = c';
        there = refl;
        site = a.0 ∙ ap (λ z. z.site) same;
        same
            = λ f. a.1 (ap (λ z. fetched z.site) same ∙ f) ∙ ap (λ z. z.node) same;
      }
  agree_get (c ∷ h) (c' ∷ h') (suc i) y a e = let b : Beside y h' i = agree_get h h' i y a.2 e
      in record { y' = b.y'; there = b.there; site = b.site; same = b.same }

  -- both get a node
  pub agree_set : (h h' : List HeapCell) (i : ℕ) (y y' : HeapCell) (n : Node) → Agree h h'
      → slice_get h i ≡ Some y → slice_get h' i ≡ Some y' → y'.site ≡ y.site
      → Agree (slice_set h i (record { site = y.site; node = n }))
      (slice_set h' i (record { site = y'.site; node = n }))
  agree_set [] h' i y y' n a e e' s = none_is_some e
  agree_set (c ∷ h) [] i y y' n a e e' s = absurd a
  agree_set (c ∷ h) (c' ∷ h') zero y y' n a e e' s = (s, λ f. refl, a.2)
  agree_set (c ∷ h) (c' ∷ h') (suc i) y y' n a e e' s
      = (a.0, a.1, agree_set h h' i y y' n a.2 e e' s)

  -- the first alone gets one, where nothing is fetched from the cell
  pub agree_left : (h h' : List HeapCell) (i : ℕ) (y : HeapCell) (n : Node) → Agree h h'
      → slice_get h i ≡ Some y → fetched y.site ≡ false
      → Agree (slice_set h i (record { site = y.site; node = n })) h'
  agree_left [] h' i y n a e u = none_is_some e
  agree_left (c ∷ h) [] i y n a e u = absurd a
  agree_left (c ∷ h) (c' ∷ h') zero y n a e u =
      (a.0 ∙ ap (λ z. z.site) (some_is e), λ f. not_both (fetched y.site) f u, a.2)
  agree_left (c ∷ h) (c' ∷ h') (suc i) y n a e u = (a.0, a.1, agree_left h h' i y n a.2 e u)
