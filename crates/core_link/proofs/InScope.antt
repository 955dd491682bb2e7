-- What is in scope at a place of a module, and at the same place of the linked program.
use Rattle.std.proofs.Common.{◌≡◌, ℕ, Bool, true, false, List, [], ◌∷◌, length, refl, sym, ap, subst, ◌∙◌, arith, Some}
use Rattle.std.specs.Prelude.{◌≢◌, ◌==◌, codes, slice_get, if◌then◌else◌}
use Rattle.std.specs.List.{AllZip}
use Rattle.std.specs.Str.{bytes_eq}
use Rattle.std.proofs.lemmas.Bool.{eqb-true, eq-eqb}
use Rattle.seq.proofs.Lists.{some_is}
use Rattle.core_reader.specs.declared.syntax.Binder.{Binder}
use Rattle.core_reader.specs.Readable.{IsNamed, AreDistinct}
use Rattle.core_reader.specs.Tree.{Program}
use Rattle.arity_check.specs.declared.meaning.Meaning.TheVariants.{Local}
use Rattle.arity_check.specs.Scope.{Scope, is_named, function_from, found_in, binds, binds_all}
use Rattle.arity_check.specs.Pieces.{names_of}
use Rattle.core_meaning.proofs.Valid.{different_places}
use Rattle.core_link.specs.Module.{Module, seen, text_in}
use Rattle.core_link.specs.Union.{LocalBecomes, local_text}
use Rattle.core_link.proofs.Different.{local_one, LocalIs, Nameless, Quoted, local_is, nameless_quote}
use Rattle.core_link.proofs.Linked.{text_is}
use Rattle.core_link.proofs.Moved.{differs}
use Rattle.core_link.proofs.Clear.{named_at, other_bytes}

-- `_` is the local that is called so
local_nameless : (w : List ℕ) → bytes_eq w (codes "_") ≡ bytes_eq (local_text w) (codes "_")
local_nameless w = go (local_is w)
  where
    go : LocalIs w (local_text w) → bytes_eq w (codes "_") ≡ bytes_eq (local_text w) (codes "_")
    go (Nameless a e) = ap (λ v. bytes_eq v (codes "_")) (sym e)
    go (Quoted e) = other_bytes w (codes "_") (λ f. nameless_quote w [] (sym (ap local_text f) ∙ e))
        ∙ sym (other_bytes (local_text w) (codes "_") (λ f. nameless_quote w [] (sym f ∙ e)))

-- a module, a program with names that are different, and how the numbers of locals go together
module _ (m : Module) (c : Program) (own : AreDistinct m.names) (differ : AreDistinct c.names)
    (OfNumber : ℕ → ℕ → Type 0) where
  abbrev Entry : ℕ × ℕ → ℕ × ℕ → ℕ × ℕ → Type 0
  Entry a b d = (a.0 ≡ b.0) × IsNamed m.names b.0 × LocalBecomes c.names m b.0 d.0
      × OfNumber b.1 d.1

  -- A scope of the module, the same with other numbers, and the one of the program.
  abbrev pub Fits : Scope → Scope → Scope → Type 0
  Fits [] [] [] = Unit {0}
  Fits (a ∷ r) (b ∷ s) (d ∷ t) = Entry a b d × Fits r s t
  Fits r s t = ⊥

  -- what is found for a name of this text: the same local, or what is found among the functions
  pub data Finds (r s t : Scope) (x : ℕ) (w : List ℕ) : Type 0 where
    Inside : (y z n : ℕ) → found_in (seen m) r x ≡ Local y → found_in (seen m) s x ≡ Local z
        → OfNumber z n →
        ((k : ℕ) → slice_get c.names k ≡ Some (local_text w) → found_in c t k ≡ Local n)
        → Finds r s t x w
    Outside : found_in (seen m) r x ≡ function_from (seen m) (seen m).functions 0 x
        → found_in (seen m) s x ≡ function_from (seen m) (seen m).functions 0 x
        → ((k : ℕ) (v : List ℕ) → slice_get c.names k ≡ Some v → ((u : List ℕ) → v ≢ local_text u)
        → found_in c t k ≡ function_from c c.functions 0 k) → Finds r s t x w

  found_first : (p : Program) (b : ℕ × ℕ) (s : Scope) (x : ℕ) → b.0 ≡ x
      → found_in p (b ∷ s) x ≡ Local b.1
  found_first p b s x e = ap (λ i. if i then Local b.1 else found_in p s x) (eq-eqb b.0 x e)

  found_later : (p : Program) (b : ℕ × ℕ) (s : Scope) (x : ℕ) → b.0 ≢ x
      → found_in p (b ∷ s) x ≡ found_in p s x
  found_later p b s x h = go (b.0 == x) refl
    where
      go : (i : Bool) → (b.0 == x) ≡ i → (if i then Local b.1 else found_in p s x) ≡ found_in p s x
      go true e = absurd (h (eqb-true b.0 x e))
      go false e = refl

  module _ (x : ℕ) (w : List ℕ) (is : slice_get m.names x ≡ Some w) where
    at_first : (a b d : ℕ × ℕ) (r s t : Scope) → Entry a b d → b.0 ≡ x
        → Finds (a ∷ r) (b ∷ s) (d ∷ t) x w
    at_first a b d r s t h e = Inside a.1 b.1 d.1 (found_first (seen m) a r x (h.0 ∙ e))
        (found_first (seen m) b s x e) h.3
        (λ k f. found_first c d t k
        (different_places c.names differ d.0 k (local_text w)
        (h.2 ∙ ap (λ y. Some (local_text (text_in m y))) e ∙ ap (λ v. Some (local_text v))
        (text_is m x w is)) f))

    at_later : (a b d : ℕ × ℕ) (r s t : Scope) → Entry a b d → b.0 ≢ x → Finds r s t x w
        → Finds (a ∷ r) (b ∷ s) (d ∷ t) x w
    at_later a b d r s t h e (Inside y z n f g o i)
        = Inside y z n (found_later (seen m) a r x (λ j. e (sym h.0 ∙ j)) ∙ f)
        (found_later (seen m) b s x e ∙ g) o
        (λ k j. found_later c d t k
        (λ l. e (different_places m.names own b.0 x w
        (h.1.1 ∙ ap (λ v. Some v) (same_text k j l)) is)) ∙ i k j)
      where
        -- the entry's text is that of the name, if they have one number in the program
        same_text : (k : ℕ) → slice_get c.names k ≡ Some (local_text w) → d.0 ≡ k → h.1.0 ≡ w
        same_text k j l =
            let e : Some (local_text (text_in m b.0)) ≡ Some (local_text w)
            = sym h.2 ∙ ap (slice_get c.names) l ∙ j in
            sym (text_is m b.0 h.1.0 h.1.1) ∙ local_one (text_in m b.0) w (some_is e)
    at_later a b d r s t h e (Outside f g i) = Outside
        (found_later (seen m) a r x (λ j. e (sym h.0 ∙ j)) ∙ f) (found_later (seen m) b s x e ∙ g)
        (λ k v j n. found_later c d t k
        (λ l. n (text_in m b.0) (some_is (sym j ∙ sym (ap (slice_get c.names) l) ∙ h.2))) ∙ i k
        v j n)

    pub finds : (r s t : Scope) → Fits r s t → Finds r s t x w
    finds [] [] [] h = Outside refl refl (λ k v e n. refl)
    finds [] [] (d ∷ t) h = absurd h
    finds [] (b ∷ s) t h = absurd h
    finds (a ∷ r) [] t h = absurd h
    finds (a ∷ r) (b ∷ s) [] h = absurd h
    finds (a ∷ r) (b ∷ s) (d ∷ t) h = go (b.0 == x) refl (finds r s t h.1)
      where
        go : (i : Bool) → (b.0 == x) ≡ i → Finds r s t x w → Finds (a ∷ r) (b ∷ s) (d ∷ t) x w
        go true e f = at_first a b d r s t h.0 (eqb-true b.0 x e)
        go false e f = at_later a b d r s t h.0 (differs b.0 x e) f

  -- ---- binders enter the scopes

  abbrev Numbers : List ℕ → List ℕ → Type 0
  Numbers = AllZip OfNumber

  binds_true : (p : Program) (x n : ℕ) (s : Scope) → is_named p (codes "_") x ≡ true
      → binds p x n s ≡ s
  binds_true p x n s e = ap (λ b. if b then s else (x, n) ∷ s) e

  binds_false : (p : Program) (x n : ℕ) (s : Scope) → is_named p (codes "_") x ≡ false
      → binds p x n s ≡ (x, n) ∷ s
  binds_false p x n s e = ap (λ b. if b then s else (x, n) ∷ s) e

  pub same_nameless : (x k : ℕ) (w : List ℕ) → slice_get m.names x ≡ Some w
      → slice_get c.names k ≡ Some (local_text w) → is_named (seen m) (codes "_") x ≡ is_named c
      (codes "_") k
  same_nameless x k w e f = named_at (seen m) x w (codes "_") e ∙ local_nameless w ∙ sym
      (named_at c k (local_text w) (codes "_") f)

  bound_fits : (r s t : Scope) (x k y z n : ℕ) → Fits r s t → IsNamed m.names x
      → LocalBecomes c.names m x k → OfNumber z n → Fits (binds (seen m) x y r)
      (binds (seen m) x z s) (binds c k n t)
  bound_fits r s t x k y z n h is l o = go (is_named (seen m) (codes "_") x) refl
    where
      there : is_named (seen m) (codes "_") x ≡ is_named c (codes "_") k
      there = same_nameless x k is.0 is.1
          (l ∙ ap (λ v. Some (local_text v)) (text_is m x is.0 is.1))

      go : (b : Bool) → is_named (seen m) (codes "_") x ≡ b
          → Fits (binds (seen m) x y r) (binds (seen m) x z s) (binds c k n t)
      go true e = subst (λ w. Fits w (binds (seen m) x z s) (binds c k n t))
          (sym (binds_true (seen m) x y r e))
          (subst (λ w. Fits r w (binds c k n t)) (sym (binds_true (seen m) x z s e))
          (subst (Fits r s) (sym (binds_true c k n t (sym there ∙ e))) h))
      go false e = subst (λ w. Fits w (binds (seen m) x z s) (binds c k n t))
          (sym (binds_false (seen m) x y r e))
          (subst (λ w. Fits ((x, y) ∷ r) w (binds c k n t)) (sym (binds_false (seen m) x z s e))
          (subst (Fits ((x, y) ∷ r) ((x, z) ∷ s)) (sym (binds_false c k n t (sym there ∙ e)))
          ((refl, is, l, o), h)))

  pub all_fit : (r s t : Scope) (bs ds : List Binder) (xs ys zs : List ℕ) → Fits r s t
      → AllZip (λ b d. IsNamed m.names b.name.0 × LocalBecomes c.names m b.name.0 d.name.0) bs ds
      → length xs ≡ length bs → length ys ≡ length bs → AllZip OfNumber ys zs
      → Fits (binds_all (seen m) (names_of bs) xs r) (binds_all (seen m) (names_of bs) ys s)
      (binds_all c (names_of ds) zs t)
  all_fit r s t [] [] xs ys zs h z e f o = h
  all_fit r s t [] (d ∷ ds) xs ys zs h z e f o = absurd z
  all_fit r s t (b ∷ bs) [] xs ys zs h z e f o = absurd z
  all_fit r s t (b ∷ bs) (d ∷ ds) [] ys zs h z e f o = absurd (omega (arith, e))
  all_fit r s t (b ∷ bs) (d ∷ ds) (x ∷ xs) [] zs h z e f o = absurd (omega (arith, f))
  all_fit r s t (b ∷ bs) (d ∷ ds) (x ∷ xs) (y ∷ ys) [] h z e f o = absurd o
  all_fit r s t (b ∷ bs) (d ∷ ds) (x ∷ xs) (y ∷ ys) (n ∷ zs) h z e f o =
      all_fit (binds (seen m) b.name.0 x r) (binds (seen m) b.name.0 y s) (binds c d.name.0 n t) bs
      ds xs ys zs
      (bound_fits r s t b.name.0 d.name.0 x y n h z.0.0 z.0.1 o.0) z.1 (omega (arith, e))
      (omega (arith, f)) o.1
