-- Bytes with zeros behind them.
use Rattle.std.proofs.Common.{◌≡◌, ℕ, zero, suc, ◌+◌, ◌-◌, ◌*◌, ◌/◌, ◌%◌, ◌<◌, ◌≤◌, List, [], ◌∷◌, ◌++◌, length, take, drop, replicate, refl, sym, ap, subst, ◌∙◌, arith, length-drop}
use Rattle.std.specs.Prelude.{slice_set, slice_index}
use Rattle.std.proofs.lemmas.Grind.{common_steps}
use Rattle.std.proofs.lemmas.List.{set-append_left, length-set, drop-append-le, take-append-le, drop_more, get_or_append_left, get_or-append_right}
use Rattle.rv32_machine.specs.Memory.{Stretch, bytes_of, put_over, with_bytes, little_endian}
use Rattle.rv32_machine.specs.Zeros.{with_zeros}

-- how many there are
pub zeros_length : (size : ℕ) (xs : List ℕ) → length xs ≤ size → length (with_zeros size xs) ≡ size
zeros_length size xs h = grind (arith, common_steps, h)

-- zeros only
pub zero_at : (n k : ℕ) → slice_index (replicate n 0) k ≡ 0
zero_at zero k = refl
zero_at (suc n) zero = refl
zero_at (suc n) (suc k) = zero_at n k

-- a byte that is kept, and one behind
pub kept_byte : (size : ℕ) (xs : List ℕ) (k : ℕ) → k < length xs
    → slice_index (with_zeros size xs) k ≡ slice_index xs k
kept_byte size xs k h = get_or_append_left xs (replicate (size - length xs) 0) 0 k h

pub byte_behind : (size : ℕ) (xs : List ℕ) (k : ℕ) → length xs ≤ k
    → slice_index (with_zeros size xs) k ≡ 0
byte_behind size xs k h =
    get_or-append_right xs (replicate (size - length xs) 0) (length xs) k 0 refl h
    ∙ zero_at (size - length xs) (k - length xs)

-- a range of kept bytes
pub kept_range : (size k n : ℕ) (xs : List ℕ) → k + n ≤ length xs
    → take n (drop k (with_zeros size xs)) ≡ take n (drop k xs)
kept_range size k n xs h =
    ap (take n) (drop-append-le k xs (replicate (size - length xs) 0) (omega (arith, h)))
    ∙ take-append-le n (drop k xs) (replicate (size - length xs) 0)
    (omega (arith, h, length-drop k xs))

-- two bytes, and four, as a number
two_more : (xs : List ℕ) (k : ℕ) → k + 2 ≤ length xs
    → drop k xs ≡ slice_index xs k ∷ slice_index xs (k + 1) ∷ drop (k + 2) xs
two_more xs k h =
    let next : k + 1 + 1 ≡ k + 2 = omega arith in
    drop_more xs k 0 (omega (arith, h))
    ∙ ap (λ l. slice_index xs k ∷ l) (drop_more xs (k + 1) 0 (omega (arith, h)))
    ∙ ap (λ n. slice_index xs k ∷ slice_index xs (k + 1) ∷ drop n xs) next

pub two_bytes : (xs : List ℕ) (k : ℕ) → k + 2 ≤ length xs
    → little_endian (take 2 (drop k xs)) ≡ slice_index xs k + 256 * slice_index xs (k + 1)
two_bytes xs k h = ap (λ l. little_endian (take 2 l)) (two_more xs k h) ∙ omega arith

pub four_bytes : (xs : List ℕ) (k : ℕ) → k + 4 ≤ length xs
    → little_endian (take 4 (drop k xs))
    ≡ little_endian (take 2 (drop k xs)) + 65536 * little_endian (take 2 (drop (k + 2) xs))
four_bytes xs k h =
    let e = two_more xs k (omega (arith, h)) in
    ap (λ l. little_endian (take 4 l)) e ∙ omega arith
    ∙ sym (ap (λ l. little_endian (take 2 l)
    + 65536 * little_endian (take 2 (drop (k + 2) xs))) e)

-- bytes put over kept ones
zeros_put : (size k : ℕ) (xs new : List ℕ) → k + length new ≤ length xs
    → with_zeros size (put_over xs k new) ≡ put_over (with_zeros size xs) k new
zeros_put size k xs [] h = refl
zeros_put size k xs (b ∷ bs) h =
    zeros_put size (k + 1) (slice_set xs k b) bs (omega (arith, h, length-set xs k b))
    ∙ ap (λ l. put_over l (k + 1) bs)
    (ap (λ n. slice_set xs k b ++ replicate (size - n) 0) (length-set xs k b)
    ∙ sym (set-append_left xs (replicate (size - length xs) 0) k b (omega (arith, h))))

-- the same in a segment, whose bytes were made to reach so far
pub reached_put : (size k : ℕ) (xs new : List ℕ) (r s : Stretch) → r ≡ s
    → with_zeros size xs ≡ r.bytes → k + length new ≤ length xs
    → with_bytes r (with_zeros size (put_over xs k new)) ≡ with_bytes s (put_over s.bytes k new)
reached_put size k xs new r s is same h =
    let put : with_zeros size (put_over xs k new) ≡ put_over r.bytes k new
    = zeros_put size k xs new h ∙ ap (λ l. put_over l k new) same in
    subst (λ t. with_bytes r (with_zeros size (put_over xs k new))
    ≡ with_bytes t (put_over t.bytes k new)) is (ap (with_bytes r) put)

-- the bytes of a word
pub word_put : (xs : List ℕ) (k v : ℕ) → v < 4294967296
    → slice_set (slice_set (slice_set (slice_set xs k (v % 256)) (k + 1) (v / 256 % 256)) (k + 2)
    (v / 65536 % 256)) (k + 3) (v / 16777216) ≡ put_over xs k (bytes_of 4 v)
word_put xs k v h =
    let two : k + 2 ≡ k + 1 + 1 = omega arith in
    let three : k + 3 ≡ k + 1 + 1 + 1 = omega arith in
    let third : v / 65536 % 256 ≡ v / 256 / 256 % 256 = omega arith in
    let last : v / 16777216 ≡ v / 256 / 256 / 256 % 256 = omega (arith, h) in
    λ i. slice_set (slice_set (slice_set (slice_set xs k (v % 256)) (k + 1) (v / 256 % 256)) (two i)
    (third i)) (three i) (last i)
