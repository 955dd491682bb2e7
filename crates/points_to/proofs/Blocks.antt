-- Blocks in the compared of their numbers: what is found among them, and what keeps the compared.
use Rattle.std.proofs.Common.{◌≡◌, ℕ, zero, suc, ◌+◌, ◌-◌, ◌<◌, ◌≤◌, List, [], ◌∷◌, length, get_or, refl, sym, ap, ◌∙◌, subst, inl, inr, ⊎_elim, arith}
use Rattle.std.specs.List.{insert}
use Rattle.std.proofs.lemmas.List.Edits.{length-insert, get_or-insert_below, get_or-insert_at, get_or-insert_above}
use Rattle.std.proofs.lemmas.List.{get_or_default}
use Rattle.points_to.specs.Held.{In, here, there}
use Rattle.points_to.specs.Bits.{block_number_at, Ascending, BitsAt, StandsAt, GoesTo}
use Rattle.seq.proofs.Member.{none_in, cons_in}
use Rattle.seq.proofs.Order.{compared}

pub in_place : {X : Type 0} (xs : List X) (i : ℕ) (d : X) → i < length xs → In (get_or xs i d) xs
in_place [] i d lt = absurd (omega arith)
in_place (x ∷ xs) zero d lt = here
in_place (x ∷ xs) (suc i) d lt = there (in_place xs i d (omega arith))

place_in : {X : Type 0} (xs : List X) (x d : X) → In x xs → (i : ℕ) × (i < length xs)
    × (get_or xs i d ≡ x)
place_in [] x d h = none_in h
place_in (y ∷ xs) x d h = ⊎_elim (λ e. (0, omega arith, sym e))
    (λ t. let r = place_in xs x d t in let lt : r.0 < length xs = r.1
    in (suc r.0, omega (arith, lt), r.2)) (cons_in y xs h)

-- a block as it was read
read : (bs : List (ℕ × ℕ)) (k : ℕ) (b : ℕ × ℕ) → k < length bs → b ≡ get_or bs k b
    → get_or bs k (0, 0) ≡ b
read bs k b lt e = get_or_default bs k (0, 0) b lt ∙ sym e

pub its_number : (bs : List (ℕ × ℕ)) (q k : ℕ) (b : ℕ × ℕ) → StandsAt bs q k → b ≡ get_or bs k b
    → b.0 ≡ q
its_number bs q k b s e = sym (ap (λ x. x.0) (read bs k b s.within e)) ∙ s.number

module _ (bs : List (ℕ × ℕ)) (up : Ascending bs) (q : ℕ) where
  -- what stands at the place that was found
  pub found : (k : ℕ) → StandsAt bs q k → BitsAt bs q (get_or bs k (0, 0)).1
  found k s = record {
    held = inr
        (subst (λ r. In (r, (get_or bs k (0, 0)).1) bs) s.number (in_place bs k (0, 0) s.within));
    only = λ v h. one v (place_in bs (q, v) (0, 0) h);
  }
    where
      at_k : block_number_at bs k ≡ q
      at_k = s.number

      one : (v : ℕ) → (i : ℕ) × (i < length bs) × (get_or bs i (0, 0) ≡ (q, v))
          → v ≡ (get_or bs k (0, 0)).1
      one v p =
          let at_i : block_number_at bs p.0 ≡ q = ap (λ x. x.0) p.2 in
          ⊎_elim
          (λ a. let r : block_number_at bs p.0 < block_number_at bs k = up p.0 k a s.within
          in absurd (omega (arith, r, at_i, at_k)))
          (λ t. ⊎_elim (λ n. sym (ap (λ x. x.1) p.2) ∙ ap (λ i. (get_or bs i (0, 0)).1) n)
          (λ g. let r : block_number_at bs k < block_number_at bs p.0 = up k p.0 g p.1
          in absurd (omega (arith, r, at_i, at_k))) t)
          (compared p.0 k)

  -- a place at which no block with the number stands
  module _ (k : ℕ) (p : GoesTo bs q k) where
    pub not_found : BitsAt bs q 0
    not_found = record
        { held = inl refl; only = λ v h. absurd (one v (place_in bs (q, v) (0, 0) h)) }
      where
        one : (v : ℕ) → (i : ℕ) × (i < length bs) × (get_or bs i (0, 0) ≡ (q, v)) → ⊥
        one v r =
            let at_i : block_number_at bs r.0 ≡ q = ap (λ x. x.0) r.2 in
            ⊎_elim
            (λ a. let l : block_number_at bs r.0 < q = p.before r.0 a in omega (arith, l, at_i))
            (λ t. let le : k ≤ r.0 = ⊎_elim (λ e. let s : r.0 ≡ k = e in omega (arith, s))
            (λ g. let s : k < r.0 = g in omega (arith, s)) t in let l
            : q < block_number_at bs r.0 = p.after r.0 le r.1 in omega (arith, l, at_i))
            (compared r.0 k)

    -- a new block goes there
    pub still_ascending : (v : ℕ) → Ascending (insert bs k (q, v))
    still_ascending v i j lt within = ⊎_elim
        (λ a. ⊎_elim
        (λ b. let r : block_number_at bs i < block_number_at bs j
        = up i j lt (omega (arith, b, bound)) in omega (arith, r, low i a, low j b))
        (λ t. ⊎_elim
        (λ e. let r : block_number_at bs i < q = p.before i a in let s : block_number_at new j ≡ q
        = ap (block_number_at new) e ∙ here_now in omega (arith, r, s, low i a))
        (λ g. let r : block_number_at bs i < block_number_at bs (j - 1)
        = up i (j - 1) (omega (arith, a, g)) (short j g within)
        in omega (arith, r, low i a, high j g))
        t)
        (compared j k))
        (λ u. ⊎_elim
        (λ e. let g : k < j = omega (arith, e, lt) in let r : q < block_number_at bs (j - 1)
        = p.after (j - 1) (omega (arith, g)) (short j g within) in let s
        : block_number_at new i ≡ q = ap (block_number_at new) e ∙ here_now
        in omega (arith, r, s, high j g))
        (λ h. let g : k < j = omega (arith, h, lt) in let r
        : block_number_at bs (i - 1) < block_number_at bs (j - 1)
        = up (i - 1) (j - 1) (omega (arith, h, lt)) (short j g within)
        in omega (arith, r, high i h, high j g))
        u)
        (compared i k)
      where
        new : List (ℕ × ℕ)
        new = insert bs k (q, v)

        bound : k ≤ length bs
        bound = p.bound

        low : (m : ℕ) → m < k → block_number_at new m ≡ block_number_at bs m
        low m a = ap (λ x. x.0) (get_or-insert_below bs k (q, v) (0, 0) m a bound)

        here_now : block_number_at new k ≡ q
        here_now = ap (λ x. x.0) (get_or-insert_at bs k (q, v) (0, 0) bound)

        high : (m : ℕ) → k < m → block_number_at new m ≡ block_number_at bs (m - 1)
        high m g = ap (block_number_at new) (let s : m ≡ m - 1 + 1 = omega (arith, g) in s) ∙ ap
            (λ x. x.0) (get_or-insert_above bs k (q, v) (0, 0) (m - 1) (omega (arith, g)) bound)

        short : (m : ℕ) → k < m → m < length new → m - 1 < length bs
        short m g l = omega (arith, g, l, length-insert bs k (q, v) bound)
