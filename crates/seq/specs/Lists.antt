-- Words on lists, and on values that may not be there, that several layers share.
use Rattle.std.specs.Prelude.{ℕ, zero, suc, ◌+◌, Bool, true, false, cond, nat_eq, ◌||◌, List, [], ◌∷◌, Option, Some, None}

-- each item of a list is so
abbrev pub AllOf : {A : Type 0} → (A → Type 0) → List A → Type 0
AllOf P [] = Unit {0}
AllOf P (x ∷ xs) = P x × AllOf P xs

-- goes on with what is there
abbrev pub and_then : {A B : Type 0} → Option A → (A → Option B) → Option B
and_then None k = None
and_then (Some a) k = k a

-- all of them, where each is there
abbrev pub each : {A B : Type 0} → (A → Option B) → List A → Option (List B)
each f [] = Some []
each f (a ∷ as') = and_then (f a) (λ b. and_then (each f as') (λ bs. Some (b ∷ bs)))

-- an item stands in a list
pub data In {X : Type 0} : X → List X → Type 0 where
  here : {x : X} {xs : List X} → In x (x ∷ xs)
  there : {x y : X} {xs : List X} → In x xs → In x (y ∷ xs)

-- so many numbers, one after the other
abbrev pub numbers_from : ℕ → ℕ → List ℕ
numbers_from n zero = []
numbers_from n (suc k) = n ∷ numbers_from (suc n) k

-- of so many numbers, one after the other, those that pass a test
abbrev pub those : (ℕ → Bool) → ℕ → ℕ → List ℕ
those test i zero = []
those test i (suc k) = cond (test i) (i ∷ those test (suc i) k) (those test (suc i) k)

-- how often a number stands in a list
abbrev pub times : ℕ → List ℕ → ℕ
times x [] = 0
times x (y ∷ ys) = cond (nat_eq x y) 1 0 + times x ys

-- whether a number stands in a list
abbrev pub is_among : ℕ → List ℕ → Bool
is_among x [] = false
is_among x (y ∷ ys) = nat_eq x y || is_among x ys

-- whether there is a number
abbrev pub is_present : Option ℕ → Bool
is_present None = false
is_present (Some n) = true

-- a list, where there is one, and else the empty one
abbrev pub or_empty : Option (List ℕ) → List ℕ
or_empty None = []
or_empty (Some xs) = xs

-- the sum of the numbers
abbrev pub sum_of : List ℕ → ℕ
sum_of [] = 0
sum_of (n ∷ ns) = n + sum_of ns
