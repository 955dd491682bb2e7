-- Memory that is used by words.
use Rattle.std.proofs.Common.{◌≡◌, ℕ, zero, suc, ◌+◌, ◌*◌, ◌/◌, ◌%◌, ◌^◌, ◌<◌, List, [], ◌∷◌, ◌++◌, length, take, drop, get_or, set, replicate, refl, sym, ap, ◌∙◌, arith}
use Rattle.rv32_machine.specs.Memory.{bytes_of, little_endian, put_over}
use Rattle.rv32_steps.proofs.Fetch.{four_back}
pub use Rattle.rv32_steps.specs.Data.{words_bytes, AreWords, word_segment}

pub words_length : (ws : List ℕ) → length (words_bytes ws) ≡ 4 * length ws
words_length [] = refl
words_length (w ∷ ws) = omega (arith, words_length ws)

four_more : (k : ℕ) → 4 * suc k ≡ suc (suc (suc (suc (4 * k))))
four_more k = omega arith

pub read_word : (ws : List ℕ) (k : ℕ) → AreWords ws → k < length ws
    → little_endian (take 4 (drop (4 * k) (words_bytes ws))) ≡ get_or ws k 0
read_word [] k h lt = absurd (omega arith)
read_word (w ∷ ws) zero h lt = four_back w h.0
read_word (w ∷ ws) (suc k) h lt = ap (λ n. little_endian (take 4 (drop n (words_bytes (w ∷ ws)))))
    (four_more k) ∙ read_word ws k h.1 (omega arith)

over_later : (b : ℕ) (xs bs : List ℕ) (o : ℕ) → put_over (b ∷ xs) (suc o) bs ≡ b ∷ put_over xs o bs
over_later b xs [] o = refl
over_later b xs (y ∷ ys) o =
    let e : suc o + 1 ≡ suc (o + 1) = omega arith in
    ap (λ n. put_over (b ∷ set xs o y) n ys) e ∙ over_later b (set xs o y) ys (o + 1)

-- behind the four bytes of a word
over_word : (w : ℕ) (ws bs : List ℕ) (n : ℕ) → put_over (words_bytes (w ∷ ws))
    (suc (suc (suc (suc n)))) bs ≡ bytes_of 4 w ++ put_over (words_bytes ws) n bs
over_word w ws bs n =
    let r = words_bytes ws in
    let b0 = w % 256 in
    let b1 = w / 256 % 256 in
    let b2 = w / 256 / 256 % 256 in
    let b3 = w / 256 / 256 / 256 % 256 in
    over_later b0 (b1 ∷ b2 ∷ b3 ∷ r) bs (suc (suc (suc n)))
    ∙ ap (λ l. b0 ∷ l) (over_later b1 (b2 ∷ b3 ∷ r) bs (suc (suc n)))
    ∙ ap (λ l. b0 ∷ b1 ∷ l) (over_later b2 (b3 ∷ r) bs (suc n))
    ∙ ap (λ l. b0 ∷ b1 ∷ b2 ∷ l) (over_later b3 r bs n)

pub put_word : (ws : List ℕ) (k v : ℕ) → k < length ws
    → put_over (words_bytes ws) (4 * k) (bytes_of 4 v) ≡ words_bytes (set ws k v)
put_word [] k v lt = absurd (omega arith)
put_word (w ∷ ws) zero v lt = refl
put_word (w ∷ ws) (suc k) v lt =
    ap (λ n. put_over (words_bytes (w ∷ ws)) n (bytes_of 4 v)) (four_more k)
    ∙ over_word w ws (bytes_of 4 v) (4 * k)
    ∙ ap (λ l. bytes_of 4 w ++ l) (put_word ws k v (omega arith))

-- the low byte of a word
pub read_low_byte : (ws : List ℕ) (k : ℕ) → k < length ws
    → take 1 (drop (4 * k) (words_bytes ws)) ≡ get_or ws k 0 % 256 ∷ []
read_low_byte [] k lt = absurd (omega arith)
read_low_byte (w ∷ ws) zero lt = refl
read_low_byte (w ∷ ws) (suc k) lt = ap (λ n. take 1 (drop n (words_bytes (w ∷ ws)))) (four_more k) ∙
    read_low_byte ws k (omega arith)

-- a word with another low byte
abbrev pub with_low_byte : ℕ → ℕ → ℕ
with_low_byte w b = w / 256 * 256 + b % 256

pub put_low_byte : (ws : List ℕ) (k b : ℕ) → k < length ws
    → put_over (words_bytes ws) (4 * k) (bytes_of 1 b) ≡ words_bytes
    (set ws k (with_low_byte (get_or ws k 0) b))
put_low_byte [] k b lt = absurd (omega arith)
put_low_byte (w ∷ ws) zero b lt =
    let v = with_low_byte w b in
    let low : b % 256 ≡ v % 256 = omega arith in
    let high : w / 256 ≡ v / 256 = omega arith in
    λ i. low i ∷ (high i % 256 ∷ (high i / 256 % 256 ∷ (high i / 256 / 256 % 256 ∷ words_bytes ws)))
put_low_byte (w ∷ ws) (suc k) b lt =
    ap (λ n. put_over (words_bytes (w ∷ ws)) n (bytes_of 1 b)) (four_more k)
    ∙ over_word w ws (bytes_of 1 b) (4 * k)
    ∙ ap (λ l. bytes_of 4 w ++ l) (put_low_byte ws k b (omega arith))

pub are_set : (ws : List ℕ) (k v : ℕ) → AreWords ws → v < 2 ^ 32 → AreWords (set ws k v)
are_set [] k v h lt = tt
are_set (w ∷ ws) zero v h lt = (lt, h.1)
are_set (w ∷ ws) (suc k) v h lt = (h.0, are_set ws k v h.1 lt)

-- a byte stored over a word that is zero makes the word that byte
pub put_byte : (ws : List ℕ) (k b : ℕ) → k < length ws → get_or ws k 0 ≡ 0 → b < 256
    → put_over (words_bytes ws) (4 * k) (bytes_of 1 b) ≡ words_bytes (set ws k b)
put_byte ws k b lt none small =
    let same : with_low_byte (get_or ws k 0) b ≡ b = ap (λ w. with_low_byte w b) none ∙ omega arith
    in
    put_low_byte ws k b lt ∙ ap (λ v. words_bytes (set ws k v)) same

-- zeros are words of zero
pub zero_words : (n : ℕ) → words_bytes (replicate n 0) ≡ replicate (4 * n) 0
zero_words zero = refl
zero_words (suc n) = ap (λ l. 0 ∷ 0 ∷ 0 ∷ 0 ∷ l) (zero_words n) ∙ ap (λ k. replicate {A = ℕ} k 0)
    (sym (four_more n))

pub zeros_are_words : (n : ℕ) → AreWords (replicate n 0)
zeros_are_words zero = tt
zeros_are_words (suc n) = (omega arith, zeros_are_words n)
