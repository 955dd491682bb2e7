-- Sets as lists: the numbers of a list, ascending and without repeats.
use Rattle.std.specs.Prelude.{ℕ, suc, cond, nat_eq, nat_lt, List, [], ◌∷◌, ◌++◌}

-- a number put among ascending ones, where it isn't there yet
abbrev pub inserted_ascending : ℕ → List ℕ → List ℕ
inserted_ascending n [] = n ∷ []
inserted_ascending n (m ∷ ms) =
    cond (nat_lt n m) (n ∷ m ∷ ms) (cond (nat_eq n m) (m ∷ ms) (m ∷ inserted_ascending n ms))

abbrev pub ascending : List ℕ → List ℕ
ascending [] = []
ascending (n ∷ ns) = inserted_ascending n (ascending ns)

-- what each item gives, by its place, the places counted from k on
abbrev pub flat_map_indexed : {A B : Type 0} → (ℕ → A → List B) → ℕ → List A → List B
flat_map_indexed f k [] = []
flat_map_indexed f k (x ∷ xs) = f k x ++ flat_map_indexed f (suc k) xs
