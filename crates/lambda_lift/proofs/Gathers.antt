-- What is gathered use by use are the free names, as many of the first as were asked for.
use Rattle.std.proofs.Common.{◌≡◌, ℕ, zero, suc, ◌-◌, ◌<◌, ◌≤◌, Bool, true, false, cond, nat_eq, nat_lt, not, ◌&&◌, List, [], ◌∷◌, ◌++◌, length, take, refl, sym, ap, ◌∙◌, arith, append_assoc, length-append}
use Rattle.std.specs.Prelude.{◌==◌, ◌||◌, filter}
use Rattle.std.proofs.lemmas.List.{append-nil}
use Rattle.std.proofs.lemmas.Bool.{ltb-true}
use Rattle.seq.specs.Lists.{is_among}
use Rattle.lambda_lift.specs.Free.{without_repeats}
use Rattle.lambda_lift.specs.Gathered.{with_free_name, collected_free_names}

module _ (test : ℕ → Bool) (limit : ℕ) where
  pub gathered_append : (found xs ys : List ℕ) → collected_free_names test limit found (xs ++ ys) ≡
      collected_free_names test limit (collected_free_names test limit found xs) ys
  unfolding collected_free_names
  gathered_append found [] ys = refl
  gathered_append found (x ∷ xs) ys = gathered_append (with_free_name test limit found x) xs ys

  pub gathered_none : (found : List ℕ) → collected_free_names test limit found [] ≡ found
  unfolding collected_free_names
  gathered_none found = refl

  pub gathered_one : (found : List ℕ) (x : ℕ) → collected_free_names test limit found (x ∷ []) ≡
      with_free_name test limit found x
  unfolding collected_free_names
  gathered_one found x = refl

-- ---- filters

filter_cons : (p : ℕ → Bool) (x : ℕ) (xs : List ℕ) (b : Bool) → p x ≡ b
    → filter p (x ∷ xs) ≡ cond b (x ∷ filter p xs) (filter p xs)
filter_cons p x xs b e = ap (λ b. cond b (x ∷ filter p xs) (filter p xs)) e

both_by : (p q : ℕ → Bool) (x : ℕ) (xs : List ℕ) → filter p (filter q xs) ≡ filter (λ y. q y && p y)
    xs → (a b : Bool) → p x ≡ b
    → filter p (cond a (x ∷ filter q xs) (filter q xs)) ≡ cond (a && b)
    (x ∷ filter (λ y. q y && p y) xs) (filter (λ y. q y && p y) xs)
both_by p q x xs rest false b e = rest
both_by p q x xs rest true true e = ap
    (λ b. cond b (x ∷ filter p (filter q xs)) (filter p (filter q xs))) e ∙ ap (λ w. x ∷ w) rest
both_by p q x xs rest true false e = ap
    (λ b. cond b (x ∷ filter p (filter q xs)) (filter p (filter q xs))) e ∙ rest

filter_both : (p q : ℕ → Bool) (xs : List ℕ) → filter p (filter q xs) ≡ filter (λ y. q y && p y) xs
filter_both p q [] = refl
filter_both p q (x ∷ xs) = both_by p q x xs (filter_both p q xs) (q x) (p x) refl

pub filter_same : (p q : ℕ → Bool) → ((y : ℕ) → p y ≡ q y) → (xs : List ℕ)
    → filter p xs ≡ filter q xs
filter_same p q e [] = refl
filter_same p q e (x ∷ xs) = λ i. cond (e x i) (x ∷ filter_same p q e xs i) (filter_same p q e xs i)

-- ---- names that were gathered

among_push : (y x : ℕ) (found : List ℕ) → is_among y (found ++ x ∷ []) ≡
    (is_among y found || nat_eq y x)
among_push y x [] = by (nat_eq y x)
  where
    by : (b : Bool) → (b || false) ≡ (false || b)
    by true = refl
    by false = refl
among_push y x (z ∷ found) = by (nat_eq y z) (among_push y x found)
  where
    by : (b : Bool) → is_among y (found ++ x ∷ []) ≡ (is_among y found || nat_eq y x)
        → (b || is_among y (found ++ x ∷ [])) ≡ ((b || is_among y found) || nat_eq y x)
    by true h = refl
    by false h = h

abbrev others : List ℕ → ℕ → Bool
others found y = not (is_among y found)

not_both : (a b : Bool) → not (a || b) ≡ (not b && not a)
not_both true true = refl
not_both true false = refl
not_both false true = refl
not_both false false = refl

-- without those that were found and without x
others_push : (found : List ℕ) (x : ℕ) (xs : List ℕ)
    → filter (others (found ++ x ∷ [])) xs ≡ filter (others found) (filter (λ y. not (y == x)) xs)
others_push found x xs =
    filter_same (others (found ++ x ∷ [])) (λ y. not (y == x) && others found y)
    (λ y. ap not (among_push y x found) ∙ not_both (is_among y found) (nat_eq y x)) xs
    ∙ sym (filter_both (others found) (λ y. not (y == x)) xs)

same_number : (y x : ℕ) → nat_eq y x ≡ true → y ≡ x
same_number y x e = grind arith

others_without : (found : List ℕ) (x : ℕ) → is_among x found ≡ true → (y : ℕ)
    → (not (y == x) && others found y) ≡ others found y
others_without found x e y = by (nat_eq y x) refl
  where
    by : (b : Bool) → nat_eq y x ≡ b → (not b && others found y) ≡ others found y
    by true f = sym (ap (λ z. not (is_among z found)) (same_number y x f) ∙ ap not e)
    by false f = refl

-- x was found already
others_found : (found : List ℕ) (x : ℕ) → is_among x found ≡ true → (xs : List ℕ)
    → filter (others found) (filter (λ y. not (y == x)) xs) ≡ filter (others found) xs
others_found found x e xs = filter_both (others found) (λ y. not (y == x)) xs ∙ filter_same
    (λ y. not (y == x) && others found y) (others found) (others_without found x e) xs

-- ---- the names that are gathered behind others

module _ (test : ℕ → Bool) (limit : ℕ) where
  abbrev more : List ℕ → List ℕ → List ℕ
  more found xs = found ++ take (limit - length found)
      (filter (others found) (without_repeats (filter test xs)))

  full : (found : List ℕ) → length found ≡ limit → (l m : List ℕ) → found
      ++ take (limit - length found) l ≡ found ++ take (limit - length found) m
  full found e l m = let z : limit - length found ≡ 0 = omega (arith, e)
      in ap (λ n. found ++ take n l) z ∙ sym (ap (λ n. found ++ take n m) z)

  -- one more use, where what follows is known
  one_behind : (found : List ℕ) (x : ℕ) (xs : List ℕ) → length found ≤ limit
      → ((found : List ℕ) → length found ≤ limit → collected_free_names test limit found xs ≡ more
      found xs) → (t f a : Bool) → test x ≡ t → nat_lt (length found) limit ≡ f
      → is_among x found ≡ a
      → collected_free_names test limit (cond (t && (f && not a)) (found ++ x ∷ []) found) xs ≡
      found ++ take (limit - length found)
      (filter (others found) (without_repeats (cond t (x ∷ filter test xs) (filter test xs))))
  one_behind found x xs h rest false f a e g k = rest found h
  one_behind found x xs h rest true false a e g k =
      let later : List ℕ = without_repeats (filter test xs) in
      let room : length found ≡ limit = grind (arith, g) in
      rest found h ∙ full found room (filter (others found) later)
      (filter (others found) (x ∷ filter (λ y. not (y == x)) later))
  one_behind found x xs h rest true true true e g k =
      let later : List ℕ = without_repeats (filter test xs) in
      let l : List ℕ = filter (others found) (filter (λ y. not (y == x)) later) in
      rest found h ∙ ap (λ w. found ++ take (limit - length found) w)
      (sym (others_found found x k later) ∙ sym (ap (λ b. cond (not b) (x ∷ l) l) k))
  one_behind found x xs h rest true true false e g k =
      let later : List ℕ = without_repeats (filter test xs) in
      let m : ℕ = limit - length (found ++ x ∷ []) in
      let l : List ℕ = filter (others found) (filter (λ y. not (y == x)) later) in
      let below : length found < limit = ltb-true (length found) limit g in
      let size : length (found ++ x ∷ []) ≡ suc (length found)
      = length-append found (x ∷ []) ∙ omega arith in
      let room : limit - length found ≡ suc m = omega arith in
      rest (found ++ x ∷ []) (omega arith)
      ∙ append_assoc found (x ∷ []) (take m (filter (others (found ++ x ∷ [])) later))
      ∙ ap (λ w. found ++ (x ∷ take m w)) (others_push found x later)
      ∙ sym (ap (λ n. found ++ take n (x ∷ l)) room)
      ∙ sym (ap (λ b. found ++ take (limit - length found) (cond (not b) (x ∷ l) l)) k)

  behind : (found : List ℕ) (xs : List ℕ) → length found ≤ limit
      → collected_free_names test limit found xs ≡ more found xs
  unfolding collected_free_names
  behind found [] h = sym (by (limit - length found))
    where
      by : (n : ℕ) → found ++ take n [] ≡ found
      by zero = append-nil found
      by (suc n) = append-nil found
  behind found (x ∷ xs) h = one_behind found x xs h (λ found h. behind found xs h) (test x)
      (nat_lt (length found) limit) (is_among x found) refl refl refl

  everything : (xs : List ℕ) → filter (others []) xs ≡ xs
  everything [] = refl
  everything (x ∷ xs) = ap (λ w. x ∷ w) (everything xs)

  nothing_found : (n : ℕ) (xs : List ℕ) → n ≡ limit
      → more [] xs ≡ take n (without_repeats (filter test xs))
  nothing_found n xs e =
      let z : limit - 0 ≡ n = omega (arith, e) in
      ap (λ m. take m (filter (others []) (without_repeats (filter test xs)))) z ∙ ap (take n)
      (everything (without_repeats (filter test xs)))

  pub gathered_free : (xs : List ℕ) → collected_free_names test limit [] xs ≡ take limit
      (without_repeats (filter test xs))
  gathered_free xs = behind [] xs (omega arith) ∙ nothing_found limit xs refl

-- fewer than were asked for are all
pub not_cut : (n : ℕ) (xs : List ℕ) → length (take n xs) < n → take n xs ≡ xs
not_cut zero xs h = absurd (omega arith)
not_cut (suc n) [] h = refl
not_cut (suc n) (x ∷ xs) h = ap (λ w. x ∷ w) (not_cut n xs (omega (arith, h)))
