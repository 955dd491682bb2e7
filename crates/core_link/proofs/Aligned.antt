-- Names of a program that are those of another, one by one, stand for the same.
use Rattle.std.proofs.Common.{◌≡◌, ℕ, suc, ◌+◌, Bool, false, cond, List, [], ◌∷◌, length, refl, ap, Some, None}
use Rattle.std.specs.Prelude.{◌==◌, codes, slice_get, nat_lt, not, if◌then◌else◌}
use Rattle.std.specs.List.{AllZip, position, position_or_len}
use Rattle.std.specs.Str.{bytes_eq}
use Rattle.std.proofs.lemmas.Bool.{eqb-true, eq-eqb}
use Rattle.seq.proofs.Truth.{both_ways}
use Rattle.core_reader.specs.Tree.{Program}
use Rattle.core_reader.specs.Tree as tree
use Rattle.arity_check.specs.declared.meaning.Meaning.TheVariants.{Local, Function, Unbound}
use Rattle.arity_check.specs.Scope.{Scope, is_named, primitives, function_from, found_in, means, unless_primitive}
use Rattle.core_link.proofs.Clear.{same_primitive}

pub zip_map : {X Y : Type 0} (R Q : X → Y → Type 0) → ((x : X) (y : Y) → R x y → Q x y)
    → (xs : List X) (ys : List Y) → AllZip R xs ys → AllZip Q xs ys
zip_map R Q f [] [] z = tt
zip_map R Q f [] (y ∷ ys) z = absurd z
zip_map R Q f (x ∷ xs) [] z = absurd z
zip_map R Q f (x ∷ xs) (y ∷ ys) z = (f x y z.0, zip_map R Q f xs ys z.1)

-- numbers are tested alike
pub same_test : (x n y k : ℕ) → (x ≡ n → y ≡ k) → (y ≡ k → x ≡ n) → (x == n) ≡ (y == k)
same_test x n y k f g = both_ways (x == n) (y == k) (λ h. eq-eqb y k (f (eqb-true x n h)))
    (λ h. eq-eqb x n (g (eqb-true y k h)))

pub same_named : (p q : Program) (n k : ℕ) (w : List ℕ) → slice_get p.names n ≡ slice_get q.names k
    → is_named p w n ≡ is_named q w k
same_named p q n k w e = ap (λ o. elim o [ Some b ↦ bytes_eq b w | None ↦ false ]) e

-- the functions are tested alike for two numbers, and have as many parameters
abbrev pub AlikeFor : ℕ → ℕ → tree.Function → tree.Function → Type 0
AlikeFor n k f g = ((f.name == n) ≡ (g.name == k)) × (length f.params ≡ length g.params)

pub functions_aligned : (p q : Program) (fs gs : List tree.Function) (n k i : ℕ)
    → AllZip (AlikeFor n k) fs gs → function_from p fs i n ≡ function_from q gs i k
functions_aligned p q [] [] n k i z = refl
functions_aligned p q [] (g ∷ gs) n k i z = absurd z
functions_aligned p q (f ∷ fs) [] n k i z = absurd z
functions_aligned p q (f ∷ fs) (g ∷ gs) n k i z = λ j. if z.0.0 j then Function i (z.0.1 j)
    else functions_aligned p q fs gs n k (i + 1) z.1 j

places_aligned : {X Y : Type 0} (test : X → Bool) (other : Y → Bool) (xs : List X) (ys : List Y)
    → AllZip (λ x y. test x ≡ other y) xs ys → position_or_len test xs ≡ position_or_len other ys
places_aligned test other [] [] z = refl
places_aligned test other [] (y ∷ ys) z = absurd z
places_aligned test other (x ∷ xs) [] z = absurd z
places_aligned test other (x ∷ xs) (y ∷ ys) z = λ j. cond (not (z.0 j))
    (1 + places_aligned test other xs ys z.1 j) 0

pub positions_aligned : {X Y : Type 0} (test : X → Bool) (other : Y → Bool) (xs : List X)
    (ys : List Y) → AllZip (λ x y. test x ≡ other y) xs ys → position test xs ≡ position other ys
positions_aligned test other xs ys z =
    let place = places_aligned test other xs ys z in
    let len = length_by (λ x y. test x ≡ other y) xs ys z in
    λ j. cond (nat_lt (place j) (len j)) (Some (place j)) None
  where
    length_by : {X Y : Type 0} (R : X → Y → Type 0) (xs : List X) (ys : List Y) → AllZip R xs ys
        → length xs ≡ length ys
    length_by R [] [] z = refl
    length_by R [] (y ∷ ys) z = absurd z
    length_by R (x ∷ xs) [] z = absurd z
    length_by R (x ∷ xs) (y ∷ ys) z = ap (λ n. suc n) (length_by R xs ys z.1)

-- two programs, a name of each, of one text
module _ (p q : Program) (n k : ℕ) (same : slice_get p.names n ≡ slice_get q.names k)
    (functions : AllZip (AlikeFor n k) p.functions q.functions) where
  abbrev SameEntry : ℕ × ℕ → ℕ × ℕ → Type 0
  SameEntry a b = ((a.0 == n) ≡ (b.0 == k)) × (a.1 ≡ b.1)

  found_aligned : (s t : Scope) → AllZip SameEntry s t → found_in p s n ≡ found_in q t k
  found_aligned [] [] z = functions_aligned p q p.functions q.functions n k 0 functions
  found_aligned [] (b ∷ t) z = absurd z
  found_aligned (a ∷ s) [] z = absurd z
  found_aligned (a ∷ s) (b ∷ t) z = λ j. if z.0.0 j then Local (z.0.1 j)
      else found_aligned s t z.1 j

  pub means_aligned : (s t : Scope) → AllZip SameEntry s t → means p s n ≡ means q t k
  means_aligned s t z = λ j. if same_named p q n k (codes "_") same j then Unbound
      else unless_primitive (same_primitive p q n k same primitives j) (found_aligned s t z j)
