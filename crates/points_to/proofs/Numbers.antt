-- The numbers of the bits that are 1, and sets of them.
use Rattle.std.proofs.Common.{◌≡◌, ◌≢◌, ℕ, zero, suc, ◌+◌, ◌*◌, ◌/◌, ◌%◌, ◌<◌, Bool, true, cond, nat_eq, List, [], ◌∷◌, ◌++◌, get_or, slice_set, take, drop, refl, sym, ap, ◌∙◌, subst, inl, inr, ⊎_elim, arith}
use Rattle.std.specs.Prelude.{◌⊎◌, max, IsTrue}
use Rattle.std.specs.Int.{bit_at}
use Rattle.std.specs.List.{flat_map, insert}
use Rattle.std.proofs.lemmas.Bool.{cases_eq}
use Rattle.std.proofs.lemmas.Bool.Decides.{nat_tests}
use Rattle.std.proofs.lemmas.List.{take-append-drop}
use Rattle.std.proofs.lemmas.Nat.Bits.{bit_at_lowest, bit_at-suc, bit_at-zero, bit_at-lt}
use Rattle.points_to.specs.Held.{In, here}
use Rattle.points_to.specs.Rows.{GainsMembers}
use Rattle.points_to.specs.Bits.{numbers, block_numbers, BitsAt, StandsAt}
use Rattle.seq.proofs.Member.{none_in, one_in, in_left, in_right, in_split, when_in, in_when, in_flat, flat_in}
use Rattle.points_to.proofs.Blocks.{its_number}
use Rattle.points_to.proofs.Gets.{gets_at, gets_between}

is_one : (x : ℕ) → nat_eq x 1 ≡ true → x ≡ 1
is_one x e = grind (arith, nat_tests)

pub no_numbers : (k n : ℕ) → numbers k n 0 ≡ []
unfolding numbers
no_numbers zero n = refl
no_numbers (suc k) n = no_numbers k (suc n)

-- a bit that is 1, and its number
pub bit_in : (k n b i : ℕ) → i < k → bit_at b i ≡ 1 → In (n + i) (numbers k n b)
unfolding numbers
bit_in zero n b i lt e = absurd (omega arith)
bit_in (suc k) n b zero lt e = in_left _ _
    (in_when (nat_eq (b % 2) 1) (n ∷ []) (ap (λ m. nat_eq m 1) (sym (bit_at_lowest b) ∙ e))
    (subst (λ m. In m (n ∷ [])) n_is here))
  where
    n_is : n ≡ n + 0
    n_is = omega arith
bit_in (suc k) n b (suc i) lt e = in_right (cond (nat_eq (b % 2) 1) (n ∷ []) []) _
    (subst (λ m. In m (numbers k (suc n) (b / 2))) next
    (bit_in k (suc n) (b / 2) i (omega arith) (sym (bit_at-suc b i) ∙ e)))
  where
    next : suc n + i ≡ n + suc i
    next = omega arith

pub in_bit : (k n b m : ℕ) → In m (numbers k n b) → (i : ℕ) × (i < k) × (m ≡ n + i)
    × (bit_at b i ≡ 1)
unfolding numbers
in_bit zero n b m h = none_in h
in_bit (suc k) n b m h = ⊎_elim
    (λ a. let w = when_in (nat_eq (b % 2) 1) (n ∷ []) a in let e : m ≡ n = one_in n w.1
    in (0, omega arith, omega (arith, e), bit_at_lowest b ∙ is_one (b % 2) w.0))
    (λ a. let s = in_bit k (suc n) (b / 2) m a in let lt : s.0 < k = s.1 in let e : m ≡ suc n + s.0
    = s.2 in (suc s.0, omega (arith, lt), omega (arith, e), bit_at-suc b s.0 ∙ s.3))
    (in_split (cond (nat_eq (b % 2) 1) (n ∷ []) []) _ h)

-- the same bits have the same numbers
pub same_numbers : (k n b b' : ℕ) → ((i : ℕ) → i < k → bit_at b' i ≡ bit_at b i)
    → numbers k n b' ≡ numbers k n b
unfolding numbers
same_numbers zero n b b' h = refl
same_numbers (suc k) n b b' h =
    ap (λ m. cond (nat_eq m 1) (n ∷ []) [] ++ numbers k (suc n) (b' / 2))
    (sym (bit_at_lowest b') ∙ h 0 (omega arith) ∙ bit_at_lowest b)
    ∙ ap (λ l. cond (nat_eq (b % 2) 1) (n ∷ []) [] ++ l)
    (same_numbers k (suc n) (b / 2) (b' / 2)
    (λ i lt. sym (bit_at-suc b' i) ∙ h (suc i) (omega arith) ∙ bit_at-suc b i))

-- the lowest bit that is 1 comes first
pub lowest_first : (k n b b' z : ℕ) → z < k → bit_at b z ≡ 1 → ((i : ℕ) → i < z → bit_at b i ≡ 0)
    → bit_at b' z ≡ 0 → ((i : ℕ) → i < k → i ≢ z → bit_at b' i ≡ bit_at b i)
    → numbers k n b ≡ (n + z) ∷ numbers k n b'
unfolding numbers
lowest_first zero n b b' z lt one low clear others = absurd (omega arith)
lowest_first (suc k) n b b' zero lt one low clear others =
    ap (λ m. cond (nat_eq m 1) (n ∷ []) [] ++ numbers k (suc n) (b / 2))
    (sym (bit_at_lowest b) ∙ one)
    ∙ ap (λ l. n ∷ l)
    (sym (same_numbers k (suc n) (b / 2) (b' / 2)
    (λ i lt. sym (bit_at-suc b' i) ∙ others (suc i) (omega arith)
    (λ e. absurd (omega (arith, e))) ∙ bit_at-suc b i)))
    ∙ ap (λ l. n ∷ l)
    (sym (ap (λ m. cond (nat_eq m 1) (n ∷ []) [] ++ numbers k (suc n) (b' / 2))
    (sym (bit_at_lowest b') ∙ clear)))
    ∙ ap (λ m. m ∷ numbers (suc k) n b') n_is
  where
    n_is : n ≡ n + 0
    n_is = omega arith
lowest_first (suc k) n b b' (suc z) lt one low clear others =
    ap (λ m. cond (nat_eq m 1) (n ∷ []) [] ++ numbers k (suc n) (b / 2)) zero_first
    ∙ lowest_first k (suc n) (b / 2) (b' / 2) z (omega arith) (sym (bit_at-suc b z) ∙ one)
    (λ i lt. sym (bit_at-suc b i) ∙ low (suc i) (omega arith)) (sym (bit_at-suc b' z) ∙ clear)
    (λ i lt apart. sym (bit_at-suc b' i) ∙ others (suc i) (omega arith)
    (λ e. apart (omega (arith, e))) ∙ bit_at-suc b i)
    ∙ ap (λ m. m ∷ numbers k (suc n) (b' / 2)) next
    ∙ ap (λ l. (n + suc z) ∷ l)
    (sym (ap (λ m. cond (nat_eq m 1) (n ∷ []) [] ++ numbers k (suc n) (b' / 2))
    (sym (bit_at_lowest b') ∙ others 0 (omega arith) (λ e. absurd (omega (arith, e))) ∙
    bit_at_lowest b ∙ zero_first)))
  where
    next : suc n + z ≡ n + suc z
    next = omega arith

    zero_first : b % 2 ≡ 0
    zero_first = sym (bit_at_lowest b) ∙ low 0 (omega arith)

-- the bits of a number's block say whether it is in the set
module _ (bs : List (ℕ × ℕ)) (n w : ℕ) (at : BitsAt bs (n / 64) w) where
  bit_member : bit_at w (n % 64) ≡ 1 → In n (flat_map block_numbers bs)
  bit_member e = ⊎_elim
      (λ z. let none : bit_at 0 (n % 64) ≡ 1 = subst (λ v. bit_at v (n % 64) ≡ 1) z e
      in absurd (omega (arith, none, bit_at-zero (n % 64))))
      (λ h. in_flat block_numbers bs h
      (subst (λ x. In x (numbers 64 (n / 64 * 64) w)) n_is
      (bit_in 64 (n / 64 * 64) w (n % 64) (omega arith) e)))
      at.held
    where
      n_is : n / 64 * 64 + n % 64 ≡ n
      n_is = omega arith

  member_bit : In n (flat_map block_numbers bs) → bit_at w (n % 64) ≡ 1
  member_bit h =
      let b = flat_in block_numbers bs h in
      let s = in_bit 64 (b.0.0 * 64) b.0.1 n b.2 in
      let lt : s.0 < 64 = s.1 in
      let e : n ≡ b.0.0 * 64 + s.0 = s.2 in
      let q : b.0.0 ≡ n / 64 = omega (arith, lt, e) in
      let r : s.0 ≡ n % 64 = omega (arith, lt, e) in
      subst (λ j. bit_at w j ≡ 1) r
      (subst (λ v. bit_at v s.0 ≡ 1) (at.only b.0.1 (subst (λ k. In (k, b.0.1) bs) q b.1)) s.3)

  pub has_number : (b : Bool) → (IsTrue b → bit_at w (n % 64) ≡ 1)
      × (bit_at w (n % 64) ≡ 1 → IsTrue b) → (IsTrue b → In n (flat_map block_numbers bs))
      × (In n (flat_map block_numbers bs) → IsTrue b)
  has_number b t = (λ h. bit_member (t.0 h), λ h. t.1 (member_bit h))

-- a bit of both
or_left : (x y z : ℕ) → z ≡ max x y → y < 2 → x ≡ 1 → z ≡ 1
or_left x y z e lt one = omega (arith, e, lt, one)

or_right : (x y z : ℕ) → z ≡ max x y → x < 2 → y ≡ 1 → z ≡ 1
or_right x y z e lt one = omega (arith, e, lt, one)

or_only : (x y z : ℕ) → z ≡ max x y → z ≡ 1 → (x ≡ 1) ⊎ (y ≡ 1)
or_only x y z e one = ⊎_elim (λ a. inl a) (λ d. let n : x ≢ 1 = d in inr (omega (arith, e, one, n)))
    (cases_eq x 1)

-- a block gets the numbers of another with its number
pub block_gets : (q v b w : ℕ) → ((i : ℕ) → bit_at w i ≡ max (bit_at v i) (bit_at b i))
    → GainsMembers (block_numbers (q, v)) (block_numbers (q, w)) (block_numbers (q, b))
block_gets q v b w both = record {
  kept = λ y h. let s = in_bit 64 (q * 64) v y h in subst (λ m. In m (numbers 64 (q * 64) w))
      (sym s.2)
      (bit_in 64 (q * 64) w s.0 s.1
      (or_left (bit_at v s.0) (bit_at b s.0) (bit_at w s.0) (both s.0) (bit_at-lt b s.0) s.3));
  put = λ y h. let s = in_bit 64 (q * 64) b y h in subst (λ m. In m (numbers 64 (q * 64) w))
      (sym s.2)
      (bit_in 64 (q * 64) w s.0 s.1
      (or_right (bit_at v s.0) (bit_at b s.0) (bit_at w s.0) (both s.0) (bit_at-lt v s.0) s.3));
  only = λ y h.
      let s = in_bit 64 (q * 64) w y h in
      ⊎_elim
      (λ e. inl
      (subst (λ m. In m (numbers 64 (q * 64) v)) (sym s.2) (bit_in 64 (q * 64) v s.0 s.1 e)))
      (λ e. inr
      (subst (λ m. In m (numbers 64 (q * 64) b)) (sym s.2) (bit_in 64 (q * 64) b s.0 s.1 e)))
      (or_only (bit_at v s.0) (bit_at b s.0) (bit_at w s.0) (both s.0) s.3);
}

-- in the block that stands there
pub gets_bits : (bs : List (ℕ × ℕ)) (k w : ℕ) (b new : ℕ × ℕ) → StandsAt bs new.0 k
    → b ≡ get_or bs k b → ((i : ℕ) → bit_at w i ≡ max (bit_at b.1 i) (bit_at new.1 i))
    → GainsMembers (flat_map block_numbers bs) (flat_map block_numbers (slice_set bs k (new.0, w)))
    (block_numbers new)
gets_bits bs k w b new s e both =
    gets_at block_numbers (block_numbers new) bs k b (new.0, w) s.within e
    (subst (λ q. GainsMembers (block_numbers (q, b.1)) (block_numbers (new.0, w))
    (block_numbers new)) (sym (its_number bs new.0 k b s e))
    (block_gets new.0 b.1 new.1 w both))

-- a list of its own members
gets_itself : {X : Type 0} (xs : List X) → GainsMembers [] xs xs
gets_itself xs = record { kept = λ y h. none_in h; put = λ y h. h; only = λ y h. inr h }

-- a new block
pub gets_block : (bs : List (ℕ × ℕ)) (k : ℕ) (new : ℕ × ℕ)
    → GainsMembers (flat_map block_numbers bs) (flat_map block_numbers (insert bs k new))
    (block_numbers new)
gets_block bs k new =
    subst (λ l. GainsMembers (flat_map block_numbers l) (flat_map block_numbers (insert bs k new))
    (block_numbers new)) (take-append-drop k bs)
    (gets_between block_numbers (block_numbers new) (take k bs) (drop k bs) new
    (gets_itself (block_numbers new)))
