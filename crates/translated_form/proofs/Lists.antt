-- What holds of each item of a list.
use Rattle.std.proofs.Common.{◌≡◌, ℕ, zero, suc, ◌+◌, ◌≤◌, ◌<◌, Bool, true, false, cond, List, [], ◌∷◌, map, refl, arith}
use Rattle.grin_syntax.specs.Formed.{AllOf}
use mathlib.Core.Logic.{inl, inr}
use Rattle.grin_translate.proofs.Places.{Has}
use Rattle.seq.specs.Lists.{numbers_from}

pub all_weaker : {A : Type 0} (P Q : A → Type 0) (xs : List A) → ((x : A) → P x → Q x) → AllOf P xs
    → AllOf Q xs
all_weaker P Q [] h a = tt
all_weaker P Q (x ∷ xs) h a = (h x a.0, all_weaker P Q xs h a.1)

pub all_if : {A : Type 0} (P : A → Type 0) (b : Bool) (x : A) → (b ≡ true → P x)
    → AllOf P (cond b (x ∷ []) [])
all_if P true x h = (h refl, tt)
all_if P false x h = tt

pub all_numbers : (P : ℕ → Type 0) (n k : ℕ) → ((x : ℕ) → k ≤ x → x < k + n → P x)
    → AllOf P (numbers_from k n)
all_numbers P zero k h = tt
all_numbers P (suc n) k h = (
  h k (omega arith) (omega arith),
  all_numbers P n (suc k)
      (λ x le lt. h x (omega (arith, le)) (omega (arith, lt))),
)

pub all_mapped : {A B : Type 0} (P : B → Type 0) (f : A → B) (xs : List A) → AllOf (λ x. P (f x)) xs
    → AllOf P (map f xs)
all_mapped P f [] a = tt
all_mapped P f (x ∷ xs) a = (a.0, all_mapped P f xs a.1)

pub all_of_has : {A : Type 0} (P : A → Type 0) (xs : List A) → ((x : A) → Has x xs → P x)
    → AllOf P xs
all_of_has P [] h = tt
all_of_has P (x ∷ xs) h = (h x (inl refl), all_of_has P xs (λ y i. h y (inr i)))
