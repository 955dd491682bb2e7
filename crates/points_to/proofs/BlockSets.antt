-- Blocks as sets: those of one word, those that lie within others, and sets with the same members.
use Rattle.std.proofs.Common.{◌≡◌, ◌≢◌, ◌+◌, ◌*◌, ◌/◌, ◌%◌, ◌<◌, ℕ, List, [], ◌∷◌, map, length, get_or, take, sym, ap, ◌∙◌, subst, ⊎_elim, arith}
use Rattle.std.specs.Int.{bit_at}
use Rattle.std.specs.List.{flat_map}
use Rattle.std.proofs.lemmas.Nat.Bits.{bit_at-zero}
use Rattle.flow_system.specs.declared.fact.Element.{Element}
use Rattle.points_to.specs.Held.{In}
use Rattle.points_to.specs.Bits.{numbers, block_numbers, block_words, BitsAt, number_of, word_of}
use Rattle.points_to.specs.Rows.{SameMembers}
use Rattle.seq.proofs.Member.{in_flat, in_map, map_in, in_split}
use Rattle.points_to.proofs.Blocks.{in_place}
use Rattle.points_to.proofs.Numbers.{no_numbers, bit_in, in_bit, lowest_first}
use Rattle.points_to.proofs.Loops.{flat_taken}
use Rattle.points_to.proofs.Rows.{word_number, words_are}

-- a single bit is the block of one number
pub single : (n w : ℕ) → bit_at w (n % 64) ≡ 1 → ((i : ℕ) → i ≢ n % 64 → bit_at w i ≡ bit_at 0 i)
    → block_numbers (n / 64, w) ≡ n ∷ []
single n w one others =
    lowest_first 64 (n / 64 * 64) w 0 (n % 64) (omega arith) one
    (λ i lt. let l : i < n % 64 = lt in others i (λ e. absurd (omega (arith, l, e))) ∙
    bit_at-zero i) (bit_at-zero (n % 64)) (λ i lt d. sym (others i d))
    ∙ ap (λ l. (n / 64 * 64 + n % 64) ∷ l) (no_numbers 64 (n / 64 * 64)) ∙ ap (λ m. m ∷ []) n_is
  where
    n_is : n / 64 * 64 + n % 64 ≡ n
    n_is = omega arith

pub single_word : (u : Element) (n w : ℕ) → n ≡ number_of u → bit_at w (n % 64) ≡ 1
    → ((i : ℕ) → i ≢ n % 64 → bit_at w i ≡ bit_at 0 i) → block_words (n / 64, w) ≡ u ∷ []
single_word u n w e one others = ap (map word_of) (single n w one others) ∙ ap (λ m. word_of m ∷ [])
    e ∙ ap (λ x. x ∷ []) (word_number u)

-- the numbers of a block whose bits are among those that stand there
has_in : (bs : List (ℕ × ℕ)) (b : ℕ × ℕ) (w : ℕ) → In (b.0, w) bs
    → ((i : ℕ) → bit_at b.1 i ≡ 1 → bit_at w i ≡ 1) → (n : ℕ) → In n (block_numbers b)
    → In n (flat_map block_numbers bs)
has_in bs b w k within n h =
    let s = in_bit 64 (b.0 * 64) b.1 n h in
    in_flat block_numbers bs k
    (subst (λ x. In x (numbers 64 (b.0 * 64) w)) (sym s.2)
    (bit_in 64 (b.0 * 64) w s.0 s.1 (within s.0 s.3)))

pub has_all : (bs : List (ℕ × ℕ)) (b : ℕ × ℕ) (w : ℕ) → BitsAt bs b.0 w
    → ((i : ℕ) → bit_at b.1 i ≡ 1 → bit_at w i ≡ 1) → (n : ℕ) → In n (block_numbers b)
    → In n (flat_map block_numbers bs)
has_all bs b w at within n h =
    ⊎_elim
    (λ z. let s = in_bit 64 (b.0 * 64) b.1 n h in let none : bit_at 0 s.0 ≡ 1
    = subst (λ v. bit_at v s.0 ≡ 1) z (within s.0 s.3)
    in absurd (omega (arith, none, bit_at-zero s.0)))
    (λ k. has_in bs b w k within n h)
    at.held

-- the words of a block that stands at a place with more bits
pub has_words : (bs : List (ℕ × ℕ)) (b : ℕ × ℕ) (k : ℕ) → k < length bs
    → (get_or bs k (0, 0)).0 ≡ b.0 →
    ((i : ℕ) → bit_at b.1 i ≡ 1 → bit_at (get_or bs k (0, 0)).1 i ≡ 1)
    → (u : Element) → In u (block_words b) → In u (flat_map block_words bs)
has_words bs b k lt e within u h =
    let w = (get_or bs k (0, 0)).1 in
    let r = map_in word_of (block_numbers b) h in
    let n = has_in bs b w (subst (λ q. In (q, w) bs) e (in_place bs k (0, 0) lt)) within r.0 r.1 in
    subst (In u) (sym (words_are bs))
    (subst (λ v. In v (map word_of (flat_map block_numbers bs))) (sym r.2)
    (in_map word_of (flat_map block_numbers bs) n))

-- one more whose members are among others
pub within_more : {X Y : Type 0} (f : X → List Y) (ys : List Y) (xs : List X) (i : ℕ) (x : X)
    → i < length xs → ((y : Y) → In y (flat_map f (take i xs)) → In y ys)
    → ((y : Y) → In y (f (get_or xs i x)) → In y ys) → (y : Y) → In y (flat_map f (take (i + 1) xs))
    → In y ys
within_more f ys xs i x lt old more y h =
    ⊎_elim (old y) (more y)
    (in_split (flat_map f (take i xs)) (f (get_or xs i x))
    (subst (In y) (sym (flat_taken f xs i x lt)) h))

-- images of the same members
pub same_map : {X Y : Type 0} (f : X → Y) (xs ys : List X) → SameMembers xs ys
    → SameMembers (map f xs) (map f ys)
same_map f xs ys s = record {
  into = λ y h. let w = map_in f xs h in subst (λ z. In z (map f ys)) (sym w.2)
      (in_map f ys (s.into w.0 w.1));
  back = λ y h. let w = map_in f ys h in subst (λ z. In z (map f xs)) (sym w.2)
      (in_map f xs (s.back w.0 w.1));
}
