-- Cells in the heap's words: a word of one changes, and new ones are zeros.
use Rattle.std.proofs.Common.{◌≡◌, ◌≢◌, ℕ, zero, suc, ◌+◌, ◌*◌, ◌<◌, ◌≤◌, List, [], ◌∷◌, ◌++◌, length, get_or, set, replicate, Some, ◌⊎◌, inl, inr, refl, sym, ap, ◌∙◌, arith, get_or-set_same, get_or-set_other, length-append}
use Rattle.std.specs.Prelude.{nat_lt, slice_get, slice_set}
use Rattle.std.proofs.lemmas.Bool.Decides.{nat_tests}
use Rattle.std.proofs.lemmas.Option.{slice_get_within}
use Rattle.std.proofs.lemmas.List.{length-replicate}
use Rattle.std.proofs.Math.ListN.{length-set}
use Rattle.std.proofs.Math.Nat.{mul-le-mul_left}
use Rattle.seq.proofs.Truth.{two_ways}
use Rattle.low_code.specs.Values.{Word, number}
use Rattle.rv32_select.proofs.Relation.{word_of, HoldsCells}

pub get_of_set : {A : Type 0} (xs : List A) (i k : ℕ) (v x : A)
    → slice_get (slice_set xs i v) k ≡ Some x → ((k ≡ i) × (v ≡ x))
    ⊎ ((k ≢ i) × (slice_get xs k ≡ Some x))
get_of_set [] i k v x e = absurd (cc)
get_of_set (y ∷ xs) zero zero v x e = let same : v ≡ x = cc in inl (refl, same)
get_of_set (y ∷ xs) zero (suc k) v x e = inr ((λ h. absurd (omega arith)), e)
get_of_set (y ∷ xs) (suc i) zero v x e = inr ((λ h. absurd (omega arith)), e)
get_of_set (y ∷ xs) (suc i) (suc k) v x e = elim (get_of_set xs i k v x e) [
  | inl h ↦ inl (ap suc h.0, h.1)
  | inr h ↦ inr ((λ z. h.0 (let same : k ≡ i = omega arith in same)), h.1)
]

pub get_of_append : {A : Type 0} (xs ys : List A) (k : ℕ) (x : A) → slice_get (xs ++ ys) k ≡ Some x
    → (slice_get xs k ≡ Some x) ⊎ ((m : ℕ) × ((k ≡ length xs + m) × (slice_get ys m ≡ Some x)))
get_of_append [] ys k x e = inr (k, (omega arith, e))
get_of_append (y ∷ xs) ys zero x e = inl e
get_of_append (y ∷ xs) ys (suc k) x e = elim (get_of_append xs ys k x e) [
  | inl h ↦ inl h
  | inr h ↦ let is = h.1.0 in inr (h.0, (omega arith, h.1.1))
]

pub get_of_replicate : {A : Type 0} (n k : ℕ) (a x : A) → slice_get (replicate n a) k ≡ Some x
    → x ≡ a
get_of_replicate zero k a x e = absurd (cc)
get_of_replicate (suc n) zero a x e = let same : a ≡ x = cc in sym same
get_of_replicate (suc n) (suc k) a x e = get_of_replicate n k a x e

-- words of different cells are different words
apart_below : (width i a k t : ℕ) → i < a → k < width → width * a + t ≢ width * i + k
apart_below width i a k t lt h e =
    let up : width * suc i ≤ width * a = mul-le-mul_left width
    (let x : suc i ≤ a = omega arith in x) in
    let more : width * suc i ≡ width * i + width = omega arith in
    absurd (omega arith)

pub cells_apart : (width i a k t : ℕ) → a ≢ i → k < width → t < width
    → width * a + t ≢ width * i + k
cells_apart width i a k t ne h h' e = elim (decide_order i a) [
  | inl lt ↦ apart_below width i a k t lt h e
  | inr lt ↦ apart_below width a i t k (omega arith) h' (sym e)
]
  where
    decide_order : (i a : ℕ) → (i < a) ⊎ (a ≤ i)
    decide_order i a = elim (two_ways (nat_lt i a))
        [ inl e ↦ inl (grind (arith, nat_tests)) | inr e ↦ inr (grind (arith, nat_tests)) ]

-- a word of a cell is one of the heap's
pub cell_inside : (width i k n : ℕ) → i < n → k < width → width * i + k < width * n
cell_inside width i k n lt h =
    let up : width * suc i ≤ width * n = mul-le-mul_left width
    (let x : suc i ≤ n = omega arith in x) in
    let more : width * suc i ≡ width * i + width = omega arith in
    omega arith

pub cells_stored : (width : ℕ) (heap : List ℕ) (cs : List (List Word)) (i k : ℕ) (ws : List Word)
    (old v : Word) → HoldsCells width heap cs → slice_get cs i ≡ Some ws → slice_get ws k ≡ Some old
    → width * i + k < length heap
    → HoldsCells width (set heap (width * i + k) (word_of width v))
    (slice_set cs i (slice_set ws k v))
cells_stored width heap cs i k ws old v h here there inside =
    let t = width * i + k in
    let full_ws = h.full i ws here in
    let k_lt : k < width = let x = slice_get_within ws k old there in omega arith in
    let i_lt = slice_get_within cs i ws here in
    record {
      full = λ a x e. elim (get_of_set cs i a (slice_set ws k v) x e) [
        | inl p ↦ ap length (sym p.1) ∙ length-set ws k v ∙ full_ws
        | inr p ↦ h.full a x p.1
      ];
      words = λ a n x y e e'. elim (get_of_set cs i a (slice_set ws k v) x e) [
        | inl p ↦ ap (λ b. get_or (set heap t (word_of width v)) (width * b + n) 0) p.0 ∙
            word_in_cell n y (ap (λ z. slice_get z n) p.1 ∙ e')
        | inr p ↦
            let n_lt : n < width = let b = h.full a x p.1 in let c = slice_get_within x n y e'
            in omega arith in
            get_or-set_other heap t (width * a + n) (word_of width v) 0
            (cells_apart width i a k n p.0 k_lt n_lt) ∙ h.words a n x y p.1 e'
      ];
      zeros = λ z le.
          let same = length-set cs i (slice_set ws k v) in
          let below = cell_inside width i k (length cs) i_lt k_lt in
          let same_product : width * length (slice_set cs i (slice_set ws k v)) ≡ width * length cs
          = ap (λ n. width * n) same in
          let ne : z ≢ t = omega arith in
          get_or-set_other heap t z (word_of width v) 0 ne ∙ h.zeros z (omega arith);
    }
  where
    word_in_cell : (n : ℕ) (y : Word) → slice_get (slice_set ws k v) n ≡ Some y
        → get_or (set heap (width * i + k) (word_of width v)) (width * i + n) 0 ≡ word_of width y
    word_in_cell n y e = elim (get_of_set ws k n v y e) [
      | inl q ↦ ap (λ m. get_or (set heap (width * i + k) (word_of width v)) (width * i + m) 0) q.0
          ∙ get_or-set_same heap (width * i + k) (word_of width v) 0 inside ∙ ap (word_of width) q.1
      | inr q ↦
          let ne = q.0 in
          let apart : width * i + n ≢ width * i + k = omega arith in
          get_or-set_other heap (width * i + k) (width * i + n) (word_of width v) 0 apart ∙ h.words
          i n ws y here q.1
    ]

-- new cells
pub cells_taken : (width : ℕ) (heap : List ℕ) (cs : List (List Word)) (n : ℕ)
    → HoldsCells width heap cs → HoldsCells width heap
    (cs ++ replicate n (replicate width (number 0)))
cells_taken width heap cs n h = record {
  full = λ a x e. elim (get_of_append cs (replicate n (replicate width (number 0))) a x e) [
    | inl p ↦ h.full a x p
    | inr p ↦ ap length (get_of_replicate n p.0 (replicate width (number 0)) x p.1.1) ∙
        length-replicate width (number 0)
  ];
  words = λ a k x y e e'. elim (get_of_append cs (replicate n (replicate width (number 0))) a x e) [
    | inl p ↦ h.words a k x y p e'
    | inr p ↦
        let is = get_of_replicate n p.0 (replicate width (number 0)) x p.1.1 in
        let none : y ≡ number 0 = get_of_replicate width k (number 0) y
        (ap (λ z. slice_get z k) (sym is) ∙ e') in
        let up : width * length cs ≤ width * a = mul-le-mul_left width
        (let z = p.1.0 in let le : length cs ≤ a = omega arith in le) in
        h.zeros (width * a + k) (omega arith) ∙ ap (word_of width) (sym none)
  ];
  zeros = λ t le.
      let longer : length cs ≤ length (cs ++ replicate n (replicate width (number 0))) = let e
      = length-append cs (replicate n (replicate width (number 0))) in omega arith in
      let up : width * length cs ≤ width * length (cs ++ replicate n (replicate width (number 0)))
      = mul-le-mul_left width longer in
      h.zeros t (omega arith);
}
