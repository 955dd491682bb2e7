-- Numbers in groups of 64, as bits: what is put there, and what is taken.
use Rattle.std.proofs.Common.{◌≡◌, ◌≢◌, ◌+◌, ◌-◌, ◌*◌, ◌^◌, ◌/◌, ◌%◌, ◌<◌, ◌≤◌, ℕ, zero, suc, Bool, true, false, cond, nat_eq, List, [], ◌∷◌, ◌++◌, length, get_or, slice_set, append_assoc, refl, sym, ap, ◌∙◌, subst, inl, inr, ⊎_elim, arith}
use Rattle.std.specs.Prelude.{◌⊎◌}
use Rattle.std.specs.Int.{bit_at}
use Rattle.std.proofs.lemmas.Nat.Bits.{bit_at_ones}
use Rattle.points_to.specs.Held.{In, here}
use Rattle.points_to.specs.Bits.{numbers, block_numbers}
use Rattle.points_to.specs.Waiting.{numbers_from, GroupsEmptyFrom, GroupsEmptyTo, Waits, Takes}
use Rattle.seq.proofs.Member.{cons_in, in_left, in_right, in_split}
use Rattle.seq.proofs.Lists.{append_nil}
use Rattle.seq.proofs.Order.{same_or_not}
use Rattle.points_to.proofs.Numbers.{no_numbers, bit_in, in_bit, lowest_first}

-- a group more
from_more : (g w : ℕ) (ws : List ℕ) → numbers_from g (ws ++ w ∷ []) ≡ numbers_from g ws
    ++ block_numbers (g + length ws, w)
from_more g w [] = append_nil (block_numbers (g, w)) ∙ ap (λ k. block_numbers (k, w)) same
  where
    same : g ≡ g + 0
    same = omega arith
from_more g w (x ∷ ws) =
    ap (λ l. block_numbers (g, x) ++ l)
    (from_more (suc g) w ws ∙ ap (λ k. numbers_from (suc g) ws ++ block_numbers (k, w)) same)
    ∙ sym (append_assoc (block_numbers (g, x)) (numbers_from (suc g) ws)
    (block_numbers (g + suc (length ws), w)))
  where
    same : suc g + length ws ≡ g + suc (length ws)
    same = omega arith

at_end : (w : ℕ) (ws : List ℕ) → numbers_from 0 (ws ++ w ∷ []) ≡ numbers_from 0 ws
    ++ block_numbers (length ws, w)
at_end w ws = from_more 0 w ws ∙ ap (λ k. numbers_from 0 ws ++ block_numbers (k, w)) same
  where
    same : 0 + length ws ≡ length ws
    same = omega arith

pub none_more : (ws old : List ℕ) → numbers_from 0 ws ≡ old → numbers_from 0 (ws ++ 0 ∷ []) ≡ old
none_more ws old e = at_end 0 ws ∙ ap (λ l. numbers_from 0 ws ++ l) (no_numbers 64 (length ws * 64))
    ∙ append_nil (numbers_from 0 ws) ∙ e

pub whole_more : (ws : List ℕ) (g : ℕ) → length ws ≡ g
    → ((n : ℕ) → n < 64 * g → In n (numbers_from 0 ws)) → (n : ℕ) → n < 64 * (g + 1)
    → In n (numbers_from 0 (ws ++ (2 ^ 64 - 1) ∷ []))
whole_more ws g e h n lt = subst (In n) (sym (at_end (2 ^ 64 - 1) ws)) (⊎_elim
    (λ a. in_left (numbers_from 0 ws) _ (h n a))
    (λ a. let b : 64 * g ≤ n = a in in_right (numbers_from 0 ws) _
    (subst (λ m. In m (block_numbers (length ws, 2 ^ 64 - 1))) (is b)
    (bit_in 64 (length ws * 64) (2 ^ 64 - 1) (n - 64 * g) (omega (arith, b, lt))
    (bit_at_ones 64 (n - 64 * g) (omega (arith, b, lt))))))
    (below (64 * g) n))
  where
    below : (k m : ℕ) → (m < k) ⊎ (k ≤ m)
    below zero m = inr (omega arith)
    below (suc k) zero = inl (omega arith)
    below (suc k) (suc m) = ⊎_elim (λ a. let l : m < k = a in inl (omega (arith, l)))
        (λ a. let l : k ≤ m = a in inr (omega (arith, l))) (below k m)

    is : 64 * g ≤ n → length ws * 64 + (n - 64 * g) ≡ n
    is b = omega (arith, b, e)

-- a number is put into its group
bit_put : (g w w' j : ℕ) → j < 64 → bit_at w' j ≡ 1 → ((i : ℕ) → i ≢ j → bit_at w' i ≡ bit_at w i)
    → Waits (block_numbers (g, w)) (block_numbers (g, w')) (g * 64 + j)
bit_put g w w' j lt one others = record {
  kept = λ m h.
      let s = in_bit 64 (g * 64) w m h in
      subst (λ x. In x (numbers 64 (g * 64) w')) (sym s.2) (bit_in 64 (g * 64) w' s.0 s.1 (⊎_elim
      (λ e. ap (bit_at w') e ∙ one)
      (λ ne. others s.0 ne ∙ s.3)
      (same_or_not s.0 j)));
  put = bit_in 64 (g * 64) w' j lt one;
}

put_from : (g : ℕ) (gs : List ℕ) (k w w' j n : ℕ) → k < length gs → w ≡ get_or gs k w
    → n ≡ (g + k) * 64 + j → j < 64 → bit_at w' j ≡ 1 → ((i : ℕ) → i ≢ j → bit_at w' i ≡ bit_at w i)
    → Waits (numbers_from g gs) (numbers_from g (slice_set gs k w')) n
put_from g [] k w w' j n within is num lt one others = absurd (omega (arith, within))
put_from g (x ∷ gs) zero w w' j n within is num lt one others =
    let t : Waits (block_numbers (g, x)) (block_numbers (g, w')) (g * 64 + j)
    = subst (λ v. Waits (block_numbers (g, v)) (block_numbers (g, w')) (g * 64 + j)) is
    (bit_put g w w' j lt one others) in
    subst (Waits (block_numbers (g, x) ++ numbers_from (suc g) gs)
    (block_numbers (g, w') ++ numbers_from (suc g) gs)) same (record {
      kept = λ m h. ⊎_elim (λ a. in_left (block_numbers (g, w')) _ (t.kept m a))
          (λ a. in_right (block_numbers (g, w')) _ a) (in_split (block_numbers (g, x)) _ h);
      put = in_left (block_numbers (g, w')) _ t.put;
    })
  where
    same : g * 64 + j ≡ n
    same = omega (arith, num)
put_from g (x ∷ gs) (suc k) w w' j n within is num lt one others =
    let t = put_from (suc g) gs k w w' j n (omega (arith, within)) is (omega (arith, num)) lt one
    others in
    record {
      kept = λ m h. ⊎_elim (λ a. in_left (block_numbers (g, x)) _ a)
          (λ a. in_right (block_numbers (g, x)) _ (t.kept m a))
          (in_split (block_numbers (g, x)) _ h);
      put = in_right (block_numbers (g, x)) _ t.put;
    }

pub put_in_group : (old gs : List ℕ) (n k w w' : ℕ) → numbers_from 0 gs ≡ numbers_from 0 old
    → k ≡ n / 64 → k < length gs → w ≡ get_or gs k w → bit_at w' (n % 64) ≡ 1
    → ((i : ℕ) → i ≢ n % 64 → bit_at w' i ≡ bit_at w i)
    → Waits (numbers_from 0 old) (numbers_from 0 (slice_set gs k w')) n
put_in_group old gs n k w w' same at within is one others
    = subst (λ l. Waits l (numbers_from 0 (slice_set gs k w')) n) same
    (put_from 0 gs k w w' (n % 64) n within is (omega (arith, at)) (omega arith) one others)

-- the lowest number of a group is taken
takes_first : (us us' vs : List ℕ) (n : ℕ) → us ≡ n ∷ us' → Takes (us ++ vs) (us' ++ vs) n
takes_first us us' vs n e = subst (λ l. Takes (l ++ vs) (us' ++ vs) n) (sym e)
    (record { rest = λ m h. cons_in n (us' ++ vs) h; shorter = omega arith })

takes_after : (xs us vs : List ℕ) (n : ℕ) → Takes us vs n → Takes (xs ++ us) (xs ++ vs) n
takes_after [] us vs n t = t
takes_after (x ∷ xs) us vs n t =
    let r = takes_after xs us vs n t in
    let lt : length (xs ++ vs) < length (xs ++ us) = r.shorter in
    record {
      rest = λ m h. ⊎_elim
          (λ a. inr (in_left (x ∷ []) (xs ++ vs) (subst (λ y. In m (y ∷ [])) a (self m))))
          (λ a. ⊎_elim (λ e. inl e) (λ b. inr (in_right (x ∷ []) (xs ++ vs) b)) (r.rest m a))
          (cons_in x (xs ++ us) h);
      shorter = omega (arith, lt);
    }
  where
    self : (m : ℕ) → In m (m ∷ [])
    self m = here

take_from : (g : ℕ) (gs : List ℕ) (k w w' z n : ℕ) → k < length gs → w ≡ get_or gs k w
    → n ≡ (g + k) * 64 + z → z < 64 → bit_at w z ≡ 1 → ((i : ℕ) → i < z → bit_at w i ≡ 0)
    → bit_at w' z ≡ 0 → ((i : ℕ) → i < 64 → i ≢ z → bit_at w' i ≡ bit_at w i)
    → Takes (numbers_from g gs) (numbers_from g (slice_set gs k w')) n
take_from g [] k w w' z n within is num lt one low clear others = absurd (omega (arith, within))
take_from g (x ∷ gs) zero w w' z n within is num lt one low clear others =
    takes_first (block_numbers (g, x)) (block_numbers (g, w')) (numbers_from (suc g) gs) n
    (ap (λ v. block_numbers (g, v)) (sym is) ∙ lowest_first 64 (g * 64) w w' z lt one low clear
    others ∙ ap (λ m. m ∷ block_numbers (g, w')) same)
  where
    same : g * 64 + z ≡ n
    same = omega (arith, num)
take_from g (x ∷ gs) (suc k) w w' z n within is num lt one low clear others =
    takes_after (block_numbers (g, x)) (numbers_from (suc g) gs)
    (numbers_from (suc g) (slice_set gs k w')) n
    (take_from (suc g) gs k w w' z n (omega (arith, within)) is (omega (arith, num)) lt one low
    clear others)

pub take_in_group : (gs : List ℕ) (k w w' z n : ℕ) → k < length gs → w ≡ get_or gs k w
    → n ≡ k * 64 + z → z < 64 → bit_at w z ≡ 1 → ((i : ℕ) → i < z → bit_at w i ≡ 0)
    → bit_at w' z ≡ 0 → ((i : ℕ) → i < 64 → i ≢ z → bit_at w' i ≡ bit_at w i)
    → Takes (numbers_from 0 gs) (numbers_from 0 (slice_set gs k w')) n
take_in_group gs k w w' z n within is num = take_from 0 gs k w w' z n within is (omega (arith, num))

-- groups without numbers
none_from : (g : ℕ) (gs : List ℕ) → ((i : ℕ) → i < length gs → get_or gs i 0 ≡ 0)
    → numbers_from g gs ≡ []
none_from g [] h = refl
none_from g (x ∷ gs) h =
    ap (λ w. block_numbers (g, w) ++ numbers_from (suc g) gs) (h 0 (omega arith)) ∙ ap
    (λ l. l ++ numbers_from (suc g) gs) (no_numbers 64 (g * 64))
    ∙ none_from (suc g) gs (λ i lt. h (suc i) (omega (arith, lt)))

pub none_at_all : (gs : List ℕ) (at : ℕ) → GroupsEmptyFrom gs at → GroupsEmptyTo gs at
    → numbers_from 0 gs ≡ []
none_at_all gs at from to = none_from 0 gs
    (λ i lt. ⊎_elim (λ a. to i a lt) (λ a. from i a lt) (either i at))
  where
    either : (i k : ℕ) → (i ≤ k) ⊎ (k ≤ i)
    either zero k = inl (omega arith)
    either (suc i) zero = inr (omega arith)
    either (suc i) (suc k) = ⊎_elim (λ a. let l : i ≤ k = a in inl (omega (arith, l)))
        (λ a. let l : k ≤ i = a in inr (omega (arith, l))) (either i k)

-- how many numbers there can be
long : {X : Type 0} (xs ys : List X) → length (xs ++ ys) ≡ length xs + length ys
long [] ys = omega arith
long (x ∷ xs) ys = let e : length (xs ++ ys) ≡ length xs + length ys = long xs ys
    in omega (arith, e)

block_long : (k n b : ℕ) → length (numbers k n b) ≤ k
unfolding numbers
block_long zero n b = omega arith
block_long (suc k) n b = go (nat_eq (b % 2) 1) (block_long k (suc n) (b / 2))
  where
    go : (t : Bool) → length (numbers k (suc n) (b / 2)) ≤ k
        → length (cond t (n ∷ []) [] ++ numbers k (suc n) (b / 2)) ≤ suc k
    go true le = omega (arith, le)
    go false le = omega (arith, le)

pub from_long : (g : ℕ) (gs : List ℕ) → length (numbers_from g gs) ≤ 64 * length gs
from_long g [] = omega arith
from_long g (x ∷ gs) =
    let a : length (block_numbers (g, x)) ≤ 64 = block_long 64 (g * 64) x in
    let b : length (numbers_from (suc g) gs) ≤ 64 * length gs = from_long (suc g) gs in
    omega (arith, a, b, long (block_numbers (g, x)) (numbers_from (suc g) gs))
