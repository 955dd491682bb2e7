-- What is known of numbers that are looked for by halves: their labels rise, and they lie between
-- the bounds.
use Rattle.std.proofs.Common.{◌≡◌, ℕ, suc, ◌^◌, ◌<◌, ◌≤◌, List, [], ◌∷◌, ◌++◌, Some, None, refl, sym, ◌∙◌, subst, arith}
use Rattle.std.specs.Prelude.{Option}
use Rattle.rv32_items.specs.declared.Item.{Item}
use Rattle.rv32_select.specs.declared.source.Source.{Source}
use Rattle.rv32_select.specs.Halves.{SearchedArm, IsBelowBound, Halves, one, two}

-- ---- what holds of each number

abbrev pub AllOf : (SearchedArm → Type 0) → List SearchedArm → Type 0
AllOf P [] = Unit {0}
AllOf P (s ∷ ss) = P s × AllOf P ss

pub all_front : (P : SearchedArm → Type 0) (xs ys : List SearchedArm) → AllOf P (xs ++ ys)
    → AllOf P xs
all_front P [] ys h = tt
all_front P (x ∷ xs) ys h = (h.0, all_front P xs ys h.1)

pub all_back : (P : SearchedArm → Type 0) (xs ys : List SearchedArm) → AllOf P (xs ++ ys)
    → AllOf P ys
all_back P [] ys h = h
all_back P (x ∷ xs) ys h = all_back P xs ys h.1

all_both : (P : SearchedArm → Type 0) (xs ys : List SearchedArm) → AllOf P xs → AllOf P ys
    → AllOf P (xs ++ ys)
all_both P [] ys h k = k
all_both P (x ∷ xs) ys h k = (h.0, all_both P xs ys h.1 k)

pub all_map : (P Q : SearchedArm → Type 0) (xs : List SearchedArm) → ((s : SearchedArm) → P s → Q s)
    → AllOf P xs → AllOf Q xs
all_map P Q [] f h = tt
all_map P Q (x ∷ xs) f h = (f x h.0, all_map P Q xs f h.1)

abbrev pub IsUp : SearchedArm → Type 0
IsUp s = s.first ≤ s.next

abbrev pub StartsFrom : ℕ → SearchedArm → Type 0
StartsFrom n s = n ≤ s.first

abbrev pub IsWord : SearchedArm → Type 0
IsWord s = s.number < 2 ^ 32

abbrev pub IsFrom : ℕ → SearchedArm → Type 0
IsFrom low s = low ≤ s.number

abbrev pub IsBelow : Option ℕ → SearchedArm → Type 0
IsBelow high s = IsBelowBound s.number high

below_less : (x y : ℕ) (high : Option ℕ) → x ≤ y → IsBelowBound y high → IsBelowBound x high
below_less x y None le h = tt
below_less x y (Some z) le h = omega (arith, le, h)

no_front : (xs ys : List SearchedArm) → xs ++ ys ≡ [] → xs ≡ []
no_front [] ys e = refl
no_front (x ∷ xs) ys e = absurd (cc)

module _ (miss : ℕ) (word : Source) where
  pub some_sought : (low : ℕ) (high : Option ℕ) (all : List SearchedArm) (n m : ℕ)
      (items : List Item) → Halves miss word low high all n m items → all ≡ [] → ⊥
  some_sought low high all n m items (one s is first next from below made) e = let none
      : s ∷ [] ≡ [] = sym is ∙ e in absurd (cc)
  some_sought low high all n m items (two bound lower upper k xs ys both first second made) e =
      some_sought low (Some bound) lower (suc n) k xs first (no_front lower upper (sym both ∙ e))

  pub halves_up : (low : ℕ) (high : Option ℕ) (all : List SearchedArm) (n m : ℕ) (items : List Item)
      → Halves miss word low high all n m items → AllOf IsUp all → n ≤ m
  halves_up low high all n m items (one s is first next from below made) h =
      let up : s.first ≤ s.next = (subst (AllOf IsUp) is h).0 in
      omega (arith, first, next, up)
  halves_up low high all n m items (two bound lower upper k xs ys both first second made) h =
      let ups = subst (AllOf IsUp) both h in
      let up = halves_up low (Some bound) lower (suc n) k xs first (all_front IsUp lower upper ups)
      in
      let more = halves_up bound high upper k m ys second (all_back IsUp lower upper ups) in
      omega (arith, up, more)

  pub halves_from : (low : ℕ) (high : Option ℕ) (all : List SearchedArm) (n m : ℕ)
      (items : List Item) → Halves miss word low high all n m items → AllOf IsUp all
      → AllOf (StartsFrom n) all
  halves_from low high all n m items (one s is first next from below made) h =
      let here : n ≤ s.first = omega (arith, first) in
      subst (AllOf (StartsFrom n)) (sym is) (here, tt)
  halves_from low high all n m items (two bound lower upper k xs ys both first second made) h =
      let ups = subst (AllOf IsUp) both h in
      let up = halves_up low (Some bound) lower (suc n) k xs first (all_front IsUp lower upper ups)
      in
      let a = halves_from low (Some bound) lower (suc n) k xs first (all_front IsUp lower upper ups)
      in
      let b = halves_from bound high upper k m ys second (all_back IsUp lower upper ups) in
      subst (AllOf (StartsFrom n)) (sym both)
      (all_both (StartsFrom n) lower upper
      (all_map (StartsFrom (suc n)) (StartsFrom n) lower
      (λ s z. let le : suc n ≤ s.first = z in omega (arith, le)) a)
      (all_map (StartsFrom k) (StartsFrom n) upper
      (λ s z. let le : k ≤ s.first = z in omega (arith, le, up)) b))

  -- the lower bound is below the upper one
  low_below : (low : ℕ) (high : Option ℕ) (all : List SearchedArm) (n m : ℕ) (items : List Item)
      → Halves miss word low high all n m items → IsBelowBound low high
  low_below low high all n m items (one s is first next from below made)
      = below_less low s.number high from below
  low_below low high all n m items (two bound lower upper k xs ys both first second made) =
      let lt : low < bound = low_below low (Some bound) lower (suc n) k xs first in
      below_less low bound high (omega (arith, lt)) (low_below bound high upper k m ys second)

  pub low_word : (low : ℕ) (high : Option ℕ) (all : List SearchedArm) (n m : ℕ) (items : List Item)
      → Halves miss word low high all n m items → AllOf IsWord all → low < 2 ^ 32
  low_word low high all n m items (one s is first next from below made) h =
      let small : s.number < 2 ^ 32 = (subst (AllOf IsWord) is h).0 in
      omega (arith, small, from)
  low_word low high all n m items (two bound lower upper k xs ys both first second made) h =
      low_word low (Some bound) lower (suc n) k xs first
      (all_front IsWord lower upper (subst (AllOf IsWord) both h))

  pub numbers_from : (low : ℕ) (high : Option ℕ) (all : List SearchedArm) (n m : ℕ)
      (items : List Item) → Halves miss word low high all n m items → AllOf (IsFrom low) all
  numbers_from low high all n m items (one s is first next from below made)
      = subst (AllOf (IsFrom low)) (sym is) (from, tt)
  numbers_from low high all n m items (two bound lower upper k xs ys both first second made) =
      let lt : low < bound = low_below low (Some bound) lower (suc n) k xs first in
      subst (AllOf (IsFrom low)) (sym both)
      (all_both (IsFrom low) lower upper (numbers_from low (Some bound) lower (suc n) k xs first)
      (all_map (IsFrom bound) (IsFrom low) upper
      (λ s z. let le : bound ≤ s.number = z in omega (arith, le, lt))
      (numbers_from bound high upper k m ys second)))

  pub numbers_below : (low : ℕ) (high : Option ℕ) (all : List SearchedArm) (n m : ℕ)
      (items : List Item) → Halves miss word low high all n m items → AllOf (IsBelow high) all
  numbers_below low high all n m items (one s is first next from below made)
      = subst (AllOf (IsBelow high)) (sym is) (below, tt)
  numbers_below low high all n m items (two bound lower upper k xs ys both first second made) =
      let top = low_below bound high upper k m ys second in
      subst (AllOf (IsBelow high)) (sym both)
      (all_both (IsBelow high) lower upper
      (all_map (IsBelow (Some bound)) (IsBelow high) lower
      (λ s z. let lt : s.number < bound = z in below_less s.number bound high
      (omega (arith, lt)) top) (numbers_below low (Some bound) lower (suc n) k xs first))
      (numbers_below bound high upper k m ys second))
