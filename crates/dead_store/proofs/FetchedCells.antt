-- Whether a solution has a cell of some sites for a variable.
use Rattle.std.proofs.Common.{◌≡◌, ℕ, zero, suc, ◌+◌, ◌<◌, ◌≤◌, Bool, true, false, not, nat_eq, ◌||◌, List, [], ◌∷◌, ◌++◌, map, take, length, get_or, refl, sym, ap, ◌∙◌, subst, ⊎_elim, arith}
use Rattle.std.specs.Prelude.{IsTrue}
use Rattle.std.proofs.lemmas.List.{take_all, take_more}
use Rattle.grin_syntax.specs.declared.program.Site.{Site}
use Rattle.grin_syntax.specs.declared.program.Word.{Word}
use Rattle.grin_syntax.specs.declared.program.Word.TheVariants.{Lit, Var, Global, TagWord}
use Rattle.grin_syntax.specs.Formed.{AllOf}
use Rattle.grin_syntax.specs.Tree.{Program}
use Rattle.flow_system.specs.declared.fact.Element.{Element as AbstractWord}
use Rattle.flow_system.specs.declared.fact.Element.TheVariants.{Cell as cell_of, Tag as tag, Number as num}
use Rattle.flow_system.specs.declared.fact.Place.TheVariants.{Var as var}
use Rattle.flow_system.specs.declared.fact.Part.TheVariants.{Word as word}
use Rattle.flow_system.specs.Tables.{tables}
use Rattle.flow_system.specs.Solution.{Solution, At, StandsFor, variable, global, among}
use Rattle.seq.specs.Lists.{In, here, there}
use Rattle.seq.proofs.Order.{eq_self, eq_from}
use Rattle.seq.proofs.Truth.{two_ways, false_not_true, true_not_false, not_both, not_true, or_left, or_right, true_right}
use Rattle.dead_store.specs.Unread.{has_fetched_cell, may_be_fetched, is_unread, MayBeFetched}

module _ (fetched : ℕ → Bool) where
  has_then : (us : List AbstractWord) → has_fetched_cell fetched us ≡ true → (s : ℕ)
      × (fetched s ≡ true) × IsTrue (among (cell_of s) us)
  has_then [] h = false_not_true h
  has_then (cell_of s ∷ us) h = go (fetched s) refl h (λ k. has_then us k)
    where
      go : (b : Bool) → fetched s ≡ b → (b || has_fetched_cell fetched us) ≡ true
          → (has_fetched_cell fetched us ≡ true → (s : ℕ) × (fetched s ≡ true)
          × IsTrue (among (cell_of s) us))
          → (r : ℕ) × (fetched r ≡ true) × IsTrue (among (cell_of r) (cell_of s ∷ us))
      go true e h again =
          (s, e, subst (λ b. IsTrue (b || among (cell_of s) us)) (sym (eq_self s)) refl)
      go false e h again = let r = again h in
          (r.0, r.1, true_right (nat_eq r.0 s) (among (cell_of r.0) us) r.2)
  has_then (tag t ∷ us) h = has_then us h
  has_then (num ∷ us) h = has_then us h

  has_if : (us : List AbstractWord) (s : ℕ) → fetched s ≡ true → IsTrue (among (cell_of s) us)
      → has_fetched_cell fetched us ≡ true
  has_if [] s e h = false_not_true h
  has_if (cell_of r ∷ us) s e h = go (nat_eq s r) refl h (λ k. has_if us s e k)
    where
      go : (b : Bool) → nat_eq s r ≡ b → IsTrue (b || among (cell_of s) us)
          → (IsTrue (among (cell_of s) us) → has_fetched_cell fetched us ≡ true)
          → (fetched r || has_fetched_cell fetched us) ≡ true
      go true q h again = or_left (fetched r) (has_fetched_cell fetched us)
          (ap fetched (sym (eq_from s r q)) ∙ e)
      go false q h again = or_right (fetched r) (has_fetched_cell fetched us) (again h)
  has_if (tag t ∷ us) s e h = has_if us s e h
  has_if (num ∷ us) s e h = has_if us s e h

  module _ (A : Solution) where
    may_then : (x : ℕ) → may_be_fetched A fetched x ≡ true → (s : ℕ) × (fetched s ≡ true)
        × At A (var x) (word 0) (cell_of s)
    may_then x h = let r = has_then (A (var x) (word 0)) h in (r.0, r.1, record { there = r.2 })

    may_if : (x s : ℕ) → fetched s ≡ true → At A (var x) (word 0) (cell_of s)
        → may_be_fetched A fetched x ≡ true
    may_if x s e a = has_if (A (var x) (word 0)) s e a.there

    -- ---- an update that goes, and one that stays

    pub unread_site : (g : Program) (a : Word) (s : ℕ) → is_unread A fetched a ≡ true
        → StandsFor (tables g) A a (cell_of s) → fetched s ≡ false
    unread_site g a s u (variable {x = x} k) = ⊎_elim
        (λ e. not_both (may_be_fetched A fetched x.0) (may_if x.0 s e k)
        (not_true (may_be_fetched A fetched x.0) u)) (λ e. e) (two_ways (fetched s))
    unread_site g a s u (global {i = i} {c = c} k) = false_not_true u

    pub read_then : (a : Word) → is_unread A fetched a ≡ false → MayBeFetched A fetched a
    read_then (Var x) h = go (may_be_fetched A fetched x.0) refl h
      where
        go : (b : Bool) → may_be_fetched A fetched x.0 ≡ b → not b ≡ false → (s : ℕ)
            × (fetched s ≡ true) × At A (var x.0) (word 0) (cell_of s)
        go true e h = may_then x.0 e
        go false e h = true_not_false h
    read_then (Lit k) h = tt
    read_then (Global i) h = tt
    read_then (TagWord t) h = tt

    -- ---- the sites of a variable in a row

    abbrev pub NoneFetched : List Site → Type 0
    NoneFetched xs = AllOf (λ (s : Site). fetched s.0 ≡ false) xs

    abbrev pub AreItsSites : ℕ → List Site → Type 0
    AreItsSites x xs = (s : ℕ) → (In s (map (λ s. s.0) xs) → At A (var x) (word 0) (cell_of s))
        × (At A (var x) (word 0) (cell_of s) → In s (map (λ s. s.0) xs))

    in_at : (xs : List Site) (i : ℕ) (d : Site) → i < length xs
        → In (get_or xs i d).0 (map (λ s. s.0) xs)
    in_at [] i d lt = absurd (omega (arith, lt))
    in_at (y ∷ xs) zero d lt = here
    in_at (y ∷ xs) (suc i) d lt = there (in_at xs i d (omega (arith, lt)))

    pub one_fetched : (x : ℕ) (xs : List Site) (i : ℕ) (d : Site) → AreItsSites x xs → i < length xs
        → fetched (get_or xs i d).0 ≡ true → may_be_fetched A fetched x ≡ true
    one_fetched x xs i d exact lt e = may_if x (get_or xs i d).0 e
        ((exact (get_or xs i d).0).0 (in_at xs i d lt))

    none_push : (xs : List Site) (s : Site) → NoneFetched xs → fetched s.0 ≡ false
        → NoneFetched (xs ++ s ∷ [])
    none_push [] s h e = (e, tt)
    none_push (x ∷ xs) s h e = (h.0, none_push xs s h.1 e)

    pub none_next : (xs : List Site) (i : ℕ) (d : Site) → i < length xs → NoneFetched (take i xs)
        → fetched (get_or xs i d).0 ≡ false → NoneFetched (take (i + 1) xs)
    none_next xs i d lt h e = subst NoneFetched (sym (take_more xs i d lt))
        (none_push (take i xs) (get_or xs i d) h e)

    none_in : (xs : List Site) (s : ℕ) → NoneFetched xs → In s (map (λ s. s.0) xs)
        → fetched s ≡ false
    none_in [] s h k = elim k [ ]
    none_in (y ∷ xs) s h here = h.0
    none_in (y ∷ xs) s h (there k) = none_in xs s h.1 k

    pub none_fetched : (x : ℕ) (xs : List Site) (i : ℕ) → AreItsSites x xs → length xs ≤ i
        → NoneFetched (take i xs) → may_be_fetched A fetched x ≡ false
    none_fetched x xs i exact le h = ⊎_elim (λ e. absurd (impossible (may_then x e))) (λ e. e)
        (two_ways (may_be_fetched A fetched x))
      where
        impossible : (s : ℕ) × (fetched s ≡ true) × At A (var x) (word 0) (cell_of s) → ⊥
        impossible r = not_both (fetched r.0) r.1
            (none_in xs r.0 (subst NoneFetched (take_all i xs le) h) ((exact r.0).1 r.2))
