-- Small facts of tests and lists.
use Rattle.std.proofs.Common.{◌≡◌, ℕ, ◌+◌, Bool, true, false, List, [], ◌∷◌, ◌++◌, arith}
use Rattle.grin_syntax.specs.declared.program.VarId.{VarId}
use Rattle.grin_syntax.specs.Binders.{numbers_of}
use Rattle.grin_syntax.specs.Formed.{AllOf}
use Rattle.seq.specs.Lists.{times}

-- ---- tests

pub never_both : {A : Type 0} {b : Bool} → b ≡ true → b ≡ false → A
never_both h k = cc

-- ---- lists

pub all_front : {A : Type 0} (P : A → Type 0) (xs ys : List A) → AllOf P (xs ++ ys) → AllOf P xs
all_front P [] ys h = tt
all_front P (x ∷ xs) ys h = (h.0, all_front P xs ys h.1)

pub all_back : {A : Type 0} (P : A → Type 0) (xs ys : List A) → AllOf P (xs ++ ys) → AllOf P ys
all_back P [] ys h = h
all_back P (x ∷ xs) ys h = all_back P xs ys h.1

pub times_vars : (y : ℕ) (xs zs : List VarId) → times y (numbers_of (xs ++ zs)) ≡ times y
    (numbers_of xs) + times y (numbers_of zs)
times_vars y [] zs = omega arith
times_vars y (x ∷ xs) zs = let h : times y (numbers_of (xs ++ zs)) ≡ times y (numbers_of xs) + times
    y (numbers_of zs) = times_vars y xs zs in omega arith
