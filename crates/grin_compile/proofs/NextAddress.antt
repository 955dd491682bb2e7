-- The next address behind one, found address by address.
use Rattle.std.proofs.Common.{◌≡◌, ℕ, ◌+◌, ◌<◌, ◌≤◌, min, Bool, true, false, nat_lt, List, [], ◌∷◌, length, Fits, w32, ap, ◌∙◌, arith}
use Rattle.std.specs.Prelude.{if◌then◌else◌}
use Rattle.std.proofs.lemmas.Bool.Decides.{nat_tests}
use Rattle.grin_compile.specs.Words.{next_address, procedures_end, start_words}

-- what comes before the end may as well be the end
sooner : (bs : List ℕ) (end a b : ℕ)
    → min b (next_address bs end a) ≡ next_address bs (min end b) a
sooner [] end a b = omega arith
sooner (c ∷ bs) end a b = go (nat_lt a c) (sooner bs end a b)
  where
    go : (t : Bool) → min b (next_address bs end a) ≡ next_address bs (min end b) a
        → min b (if t then min c (next_address bs end a) else next_address bs end a)
        ≡ (if t then min c (next_address bs (min end b) a) else next_address bs (min end b) a)
    go true rest = omega (arith, rest)
    go false rest = rest

-- an address behind a comes before the end, and any other one is passed over
pub one_behind : (bs : List ℕ) (end a b : ℕ) → a < b
    → next_address (b ∷ bs) end a ≡ next_address bs (min end b) a
one_behind bs end a b lt =
    let is : nat_lt a b ≡ true = grind (arith, nat_tests) in
    ap (λ t. if t then min b (next_address bs end a) else next_address bs end a) is
    ∙ sooner bs end a b

pub one_before : (bs : List ℕ) (end a b : ℕ) → b ≤ a
    → next_address (b ∷ bs) end a ≡ next_address bs end a
one_before bs end a b le =
    let is : nat_lt a b ≡ false = grind (arith, nat_tests) in
    ap (λ t. if t then min b (next_address bs end a) else next_address bs end a) is

-- it is no later than the end
pub next_within : (bs : List ℕ) (end a : ℕ) → next_address bs end a ≤ end
next_within [] end a = omega arith
next_within (b ∷ bs) end a = go (nat_lt a b) (next_within bs end a)
  where
    go : (t : Bool) → next_address bs end a ≤ end
        → (if t then min b (next_address bs end a) else next_address bs end a) ≤ end
    go true rest = omega (arith, rest)
    go false rest = rest

-- the words of the start and the nine behind are few
pub few_words : (code addresses : List ℕ) (start : ℕ) → length code ≤ 268435456
    → start ≡ start_words code addresses → Fits w32 (start + 9)
few_words code addresses start few is =
    let e = next_within addresses (procedures_end code) 65536 in
    record { fits = omega (arith, few, is, e) }
