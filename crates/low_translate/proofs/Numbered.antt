-- Numbers that are taken one after the other.
use Rattle.std.proofs.Common.{◌≡◌, ◌≤◌, ◌<◌, inl, inr, ℕ, zero, suc, ◌+◌, ◌-◌, nat_eq, List, [], ◌∷◌, length, take, drop, refl, ap, arith}
use Rattle.low_code.specs.Formed.{Distinct}
use Rattle.grin_syntax.specs.Tree.{Procedure}
use Rattle.low_translate.specs.Translation.{procedure_numbers}
use Rattle.std.specs.Prelude.{false, ◌||◌}
use Rattle.std.proofs.lemmas.Bool.Decides.{eqb_tells}
use Rattle.seq.specs.Lists.{numbers_from, times, is_among}
use Rattle.seq.proofs.Counted.{counts, none_at, one_at}

-- how often x is among k numbers from n on
abbrev pub taken_times : (x n k : ℕ) → ℕ
taken_times x n k = times x (numbers_from n k)

pub taken_both : (x n j k : ℕ) → taken_times x n (j + k) ≡ taken_times x n j + taken_times x (n + j)
    k
taken_both x n zero k =
    let left : 0 + k ≡ k = omega arith in
    let right : n + 0 ≡ n = omega arith in
    let e : taken_times x n (0 + k) ≡ taken_times x n k = ap (taken_times x n) left in
    let f : taken_times x (n + 0) k ≡ taken_times x n k = ap (λ m. taken_times x m k) right in
    omega (arith, e, f)
taken_both x n (suc j) k =
    let l : suc j + k ≡ suc (j + k) = omega arith in
    let f : taken_times x n (suc j + k) ≡ taken_times x n (suc (j + k)) = ap (taken_times x n) l in
    let h : taken_times x (suc n) (j + k) ≡ taken_times x (suc n) j + taken_times x (suc n + j) k
    = taken_both x (suc n) j k in
    let e : taken_times x (suc n + j) k ≡ taken_times x (n + suc j) k
    = (let q : suc n + j ≡ n + suc j = omega arith in ap (λ m. taken_times x m k) q) in
    omega (arith, f, h, e)

pub taken_below : (x n k : ℕ) → x < n → taken_times x n k ≡ 0
taken_below x n zero h = refl
taken_below x n (suc k) h =
    let e : counts (nat_eq x n) ≡ 0 = none_at x n (λ e. absurd (omega (arith, e, h))) in
    let r : taken_times x (suc n) k ≡ 0 = taken_below x (suc n) k (omega (arith, h)) in
    omega (arith, e, r)

pub taken_once : (x n k : ℕ) → taken_times x n k ≤ 1
taken_once x n zero = omega arith
taken_once x n (suc k) = elim (eqb_tells x n) [
  | inl e ↦
      let c : counts (nat_eq x n) ≡ 1 = ap counts e.0 in
      let z : taken_times x (suc n) k ≡ 0 =
      (let q = e.1 in taken_below x (suc n) k (omega (arith, q))) in
      omega (arith, c, z)
  | inr e ↦
      let c : counts (nat_eq x n) ≡ 0 = ap counts e.0 in
      let r = taken_once x (suc n) k in
      omega (arith, c, r)
]

pub times_parts : (x k : ℕ) (xs : List ℕ) → times x (take k xs) + times x (drop k xs) ≡ times x xs
times_parts x zero [] = refl
times_parts x zero (y ∷ xs) = omega arith
times_parts x (suc k) [] = refl
times_parts x (suc k) (y ∷ xs) = let h = times_parts x k xs in omega (arith, h)

pub length_parts : (k : ℕ) (xs : List ℕ) → length (take k xs) + length (drop k xs) ≡ length xs
length_parts zero [] = refl
length_parts zero (y ∷ xs) = omega arith
length_parts (suc k) [] = refl
length_parts (suc k) (y ∷ xs) = let h = length_parts k xs in omega (arith, h)

pub length_past : (k : ℕ) (xs : List ℕ) → length (drop k xs) ≡ length xs - k
length_past zero [] = refl
length_past zero (y ∷ xs) = omega arith
length_past (suc k) [] = omega arith
length_past (suc k) (y ∷ xs) = let h = length_past k xs in omega (arith, h)

not_among : (x : ℕ) (xs : List ℕ) → times x xs ≡ 0 → is_among x xs ≡ false
not_among x [] h = refl
not_among x (y ∷ xs) h = elim (eqb_tells x y) [
  | inl e ↦ let c : counts (nat_eq x y) ≡ 1 = ap counts e.0 in absurd (omega (arith, c, h))
  | inr e ↦
      (λ i. e.0 i ||
      (not_among x xs (let c : counts (nat_eq x y) ≡ 0 = ap counts e.0 in omega (arith, c, h)) i))
]

-- where no number stands twice
pub distinct : (xs : List ℕ) → ((x : ℕ) → times x xs ≤ 1) → Distinct xs
distinct [] h = tt
distinct (x ∷ xs) h =
    let c : counts (nat_eq x x) ≡ 1 = one_at x in
    let k = h x in
    (not_among x xs (omega (arith, c, k)), distinct xs (λ y. let q = h y in omega (arith, q)))

-- how many numbers procedures take
abbrev pub procs_numbers : (width : ℕ) → (results : List ℕ) → List ℕ → List Procedure → ℕ
procs_numbers width results (r ∷ ks) (q ∷ qs) = procedure_numbers width results r q + procs_numbers
    width results ks qs
procs_numbers width results _ _ = 0
