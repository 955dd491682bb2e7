-- A valid program is well formed. It has at most 4,096 functions of at most 12 parameters, and at
-- most 1,024 constructors of at most 12 fields.
use Rattle.std.proofs.Common.{◌≡◌, ℕ, zero, suc, ◌≤◌, List, [], ◌∷◌, length, Some, slice_get, refl, arith}
use Rattle.seq.proofs.Order.{not_below}
use Rattle.grin_syntax.specs.Formed.{AllOf}
use Rattle.arity_check.specs.Broken.{TooManyFunctions, TooManyConstructors, TooManyParameters, TooManyFields}
use Rattle.arity_check.specs.Normal.{Pairwise, IsFunction, IsConstructor}
use Rattle.arity_check.specs.Accepted.{IsValid}
use Rattle.arity_check.specs.Program.{Program}
use Rattle.core_meaning.specs.WellFormed.{WellFormed}
use Rattle.core_meaning.proofs.Valid as core
use Rattle.core_meaning.proofs.Valid.{different_places}

pub record Limited (p : Program) : Type 0 where
  pub few_functions : length p.funs ≤ 4096
  pub few_constructors : length p.cons ≤ 1024
  pub few_params : AllOf (λ f. f.params ≤ 12) p.funs
  pub few_fields : AllOf (λ c. c.fields ≤ 12) p.cons

all_paired : {X Y : Type 0} (R : X → Y → Type 0) (P : Y → Type 0) (xs : List X) (ys : List Y)
    → Pairwise R xs ys → ((i : ℕ) (x : X) (y : Y) → slice_get xs i ≡ Some x → R x y → P y)
    → AllOf P ys
all_paired R P [] [] w h = tt
all_paired R P [] (y ∷ ys) w h = absurd w
all_paired R P (x ∷ xs) [] w h = absurd w
all_paired R P (x ∷ xs) (y ∷ ys) w h = (h 0 x y refl w.0, all_paired R P xs ys w.1 (λ i. h (suc i)))

-- at most n items, where no item is beside them at n
few_paired : {X Y : Type 0} (R : X → Y → Type 0) (xs : List X) (ys : List Y) (n : ℕ)
    → Pairwise R xs ys → ((x : X) → slice_get xs n ≡ Some x → ⊥) → length ys ≤ n
few_paired R [] [] n w none = omega arith
few_paired R [] (y ∷ ys) n w none = absurd w
few_paired R (x ∷ xs) [] n w none = absurd w
few_paired R (x ∷ xs) (y ∷ ys) zero w none = absurd (none x refl)
few_paired R (x ∷ xs) (y ∷ ys) (suc n) w none = omega (arith, few_paired R xs ys n w.1 none)

pub valid_is_limited : (q : Program) → IsValid q → Limited q
valid_is_limited q v = record {
  few_functions = few_paired (IsFunction v.program) v.program.functions q.funs 4096 v.normal.funs
      (λ f e. v.unbroken 31 _ (TooManyFunctions e));
  few_constructors = few_paired (IsConstructor v.program) v.program.constructors q.cons 1024
      v.normal.cons (λ d e. v.unbroken 32 _ (TooManyConstructors e));
  few_params = all_paired (IsFunction v.program) (λ f. f.params ≤ 12) v.program.functions q.funs
      v.normal.funs
      (λ i f g e w. let l = not_below 12 (length f.params)
      (λ lt. v.unbroken 33 f.at (TooManyParameters i e lt)) in let s = w.params
      in omega (arith, l, s));
  few_fields = all_paired (IsConstructor v.program) (λ c. c.fields ≤ 12) v.program.constructors
      q.cons v.normal.cons
      (λ i d c e w. let l = not_below 12 d.fields (λ lt. v.unbroken 34 d.at (TooManyFields i e lt))
      in let s = w.fields in omega (arith, l, s));
}

pub valid_is_well_formed : (q : Program) → IsValid q → WellFormed q
valid_is_well_formed q v = core.valid_is_well_formed v.program q v.normal v.unbroken
    (different_places v.program.names v.readable.different)
