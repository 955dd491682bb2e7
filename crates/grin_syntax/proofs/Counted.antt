-- How often a number stands in a list of variables, and in a run of fresh ones.
use Rattle.std.proofs.Common.{◌≡◌, ℕ, zero, suc, ◌+◌, ◌<◌, ◌≤◌, Bool, true, false, nat_eq, List, [], ◌∷◌, refl, sym, ap, subst, arith, length}
use Rattle.std.proofs.lemmas.Bool.Decides.{nat_tests}
use Rattle.grin_syntax.specs.Binders.{numbers_of}
use Rattle.grin_syntax.specs.Fresh.{variables}
use Rattle.seq.specs.Lists.{times}
use Rattle.grin_syntax.specs.declared.program.VarId.{VarId}
use Rattle.seq.proofs.Counted.{counts, none_at}

-- how often x is among k variables from y on
abbrev pub fresh : ℕ → ℕ → ℕ → ℕ
fresh x y k = times x (numbers_of (variables y k))

pub fresh_below : (x y k : ℕ) → x < y → fresh x y k ≡ 0
fresh_below x y zero h = refl
fresh_below x y (suc k) h =
    let e : counts (nat_eq x y) ≡ 0 = none_at x y (omega arith) in
    let r : fresh x (suc y) k ≡ 0 = fresh_below x (suc y) k (omega arith) in
    omega arith

pub fresh_once : (x y k : ℕ) → fresh x y k ≤ 1
fresh_once x y zero = omega arith
fresh_once x y (suc k) = go (nat_eq x y) refl (fresh_once x (suc y) k)
  where
    go : (b : Bool) → nat_eq x y ≡ b → fresh x (suc y) k ≤ 1 → counts b + fresh x (suc y) k ≤ 1
    go true q h =
        let e : x ≡ y = grind (arith, nat_tests) in
        let r : fresh x (suc y) k ≡ 0 = fresh_below x (suc y) k (omega arith) in
        omega arith
    go false q h = omega arith

pub fresh_next : (x y k : ℕ) → fresh x y (suc k) ≡ counts (nat_eq x y) + fresh x (suc y) k
fresh_next x y k = refl

pub fresh_split : (x y j k : ℕ) → fresh x y (j + k) ≡ fresh x y j + fresh x (y + j) k
fresh_split x y zero k = let e : y + 0 ≡ y = omega arith in let f : 0 + k ≡ k = omega arith in
    subst (λ z. fresh x y (0 + k) ≡ 0 + fresh x z k) (sym e)
    (subst (λ n. fresh x y n ≡ 0 + fresh x y k) (sym f) (omega arith))
fresh_split x y (suc j) k =
    let e : suc y + j ≡ y + suc j = omega arith in
    let f : suc (j + k) ≡ suc j + k = omega arith in
    let h : fresh x (suc y) (j + k) ≡ fresh x (suc y) j + fresh x (y + suc j) k
    = subst (λ z. fresh x (suc y) (j + k) ≡ fresh x (suc y) j + fresh x z k) e
    (fresh_split x (suc y) j k) in
    let g : fresh x y (suc (j + k)) ≡ fresh x y (suc j) + fresh x (y + suc j) k = omega arith in
    subst (λ n. fresh x y n ≡ fresh x y (suc j) + fresh x (y + suc j) k) f g

pub length_variables : (x k : ℕ) → length (variables x k) ≡ k
length_variables x zero = refl
length_variables x (suc k) = ap suc (length_variables (suc x) k)

pub fresh_past : (x y k : ℕ) → y + k ≤ x → fresh x y k ≡ 0
fresh_past x y zero h = refl
fresh_past x y (suc k) h =
    let e : counts (nat_eq x y) ≡ 0 = none_at x y (omega arith) in
    let r : fresh x (suc y) k ≡ 0 = fresh_past x (suc y) k (omega arith) in
    omega arith

pub length_numbers : (xs : List VarId) → length (numbers_of xs) ≡ length xs
length_numbers [] = refl
length_numbers (x ∷ xs) = ap suc (length_numbers xs)
