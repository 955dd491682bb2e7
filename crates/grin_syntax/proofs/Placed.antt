-- The place of a number in a list that grows at its end.
use Rattle.std.proofs.Common.{◌≡◌, ℕ, suc, Bool, true, false, cond, nat_eq, List, [], ◌∷◌, ◌++◌, length, take, get_or, ◌<◌, ◌+◌, Option, Some, None, refl, ap, sym, ◌∙◌, arith}
use Rattle.std.proofs.lemmas.List.{take_more, length-take-le}
use Rattle.std.specs.Option.{option_map}
use Rattle.grin_syntax.specs.Listing.{place, or_else}
use Rattle.grin_syntax.specs.declared.program.VarId.{VarId}

mapped : (o : Option ℕ) (e : Bool) (n : ℕ) → option_map suc (or_else o (cond e (Some n) None)) ≡
    or_else (option_map suc o) (cond e (Some (suc n)) None)
mapped (Some k) e n = refl
mapped None true n = refl
mapped None false n = refl

chosen : (t e : Bool) (o : Option ℕ) (n : ℕ) → cond t (Some 0)
    (option_map suc (or_else o (cond e (Some n) None))) ≡ or_else
    (cond t (Some 0) (option_map suc o)) (cond e (Some (suc n)) None)
chosen true e o n = refl
chosen false e o n = mapped o e n

pub place-push : (x v : ℕ) (xs : List ℕ) → place x (xs ++ v ∷ []) ≡ or_else (place x xs)
    (cond (nat_eq x v) (Some (length xs)) None)
place-push x v [] = by_test (nat_eq x v)
  where
    by_test : (t : Bool) → cond t (Some 0) None ≡ or_else None (cond t (Some 0) None)
    by_test true = refl
    by_test false = refl
place-push x v (y ∷ ys) = ap (λ o. cond (nat_eq x y) (Some 0) (option_map suc o))
    (place-push x v ys) ∙ chosen (nat_eq x y) (nat_eq x v) (place x ys) (length ys)

-- one number more
pub places_more : (xs : List ℕ) (i x : ℕ) (g g' : Option ℕ) → i < length xs
    → g ≡ place x (take i xs) → g' ≡ or_else g (cond (nat_eq x (get_or xs i 0)) (Some i) None)
    → g' ≡ place x (take (i + 1) xs)
places_more xs i x g g' h e e' =
    let l : length (take i xs) ≡ i = length-take-le i xs (omega (arith, h)) in
    e' ∙ (λ j. or_else (e j) (cond (nat_eq x (get_or xs i 0)) (Some (sym l j)) None)) ∙ sym
    (place-push x (get_or xs i 0) (take i xs)) ∙ ap (place x) (sym (take_more xs i 0 h))

pub same_var : (x y : VarId) → x.0 ≡ y.0 → x ≡ y
same_var x y e = ap (λ n. record { 0 = n }) e
