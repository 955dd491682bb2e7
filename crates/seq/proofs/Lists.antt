-- Lists: their items by number, parts of them, and what holds of all items.
use Rattle.std.proofs.Common.{◌≡◌, ℕ, ◌+◌, ◌<◌, ◌≤◌, zero, suc, Bool, true, false, cond, List, [], ◌∷◌, ◌++◌, map, filter, take, drop, length, get_or, slice_set, refl, sym, ap, ◌∙◌, subst, arith, Option, Some, None}
use Rattle.std.specs.Prelude.{slice_get}
use Rattle.std.proofs.lemmas.List.{take_more}
use Rattle.seq.specs.Lists.{AllOf}

-- ---- options

pub some_is : {X : Type 0} {a b : X} → ◌≡◌ {A = Option X} (Some a) (Some b) → a ≡ b
some_is h = cc

pub none_is_some : {X Y : Type 0} {a : X} → ◌≡◌ {A = Option X} None (Some a) → Y
none_is_some h = absurd cc

-- ---- lists behind one another

pub append_nil : {X : Type 0} (xs : List X) → xs ++ [] ≡ xs
append_nil [] = refl
append_nil (x ∷ xs) = ap (λ k. x ∷ k) (append_nil xs)

pub append_again : {X : Type 0} (xs ys zs : List X) → (xs ++ ys) ++ zs ≡ xs ++ (ys ++ zs)
append_again [] ys zs = refl
append_again (x ∷ xs) ys zs = ap (λ l. x ∷ l) (append_again xs ys zs)

pub is_empty : {X : Type 0} (xs : List X) → length xs ≡ 0 → xs ≡ []
is_empty [] h = refl
is_empty (x ∷ xs) h = absurd (omega arith)

-- ---- items by number

pub some_at : {X : Type 0} (xs : List X) (i : ℕ) → i < length xs → (x : X)
    × (slice_get xs i ≡ Some x)
some_at [] i h = absurd (omega arith)
some_at (x ∷ xs) zero h = (x, refl)
some_at (x ∷ xs) (suc i) h = some_at xs i (omega arith)

pub get_within : {X : Type 0} (xs : List X) (i : ℕ) (x : X) → slice_get xs i ≡ Some x
    → i < length xs
get_within [] i x e = absurd cc
get_within (y ∷ ys) zero x e = omega arith
get_within (y ∷ ys) (suc i) x e = omega (arith, get_within ys i x e)

pub get_is : {X : Type 0} (xs : List X) (i : ℕ) (x : X) → i < length xs → x ≡ get_or xs i x
    → slice_get xs i ≡ Some x
get_is [] i x lt e = absurd (omega arith)
get_is (y ∷ xs) zero x lt e = ap (λ z. Some z) (sym e)
get_is (y ∷ xs) (suc i) x lt e = get_is xs i x (omega arith) e

pub get_left : {X : Type 0} (xs ys : List X) (i : ℕ) (x : X) → slice_get xs i ≡ Some x
    → slice_get (xs ++ ys) i ≡ Some x
get_left [] ys i x e = absurd cc
get_left (z ∷ xs) ys zero x e = e
get_left (z ∷ xs) ys (suc i) x e = get_left xs ys i x e

pub get_right : {X : Type 0} (xs ys : List X) (i : ℕ) (y : X) → slice_get ys i ≡ Some y
    → slice_get (xs ++ ys) (length xs + i) ≡ Some y
get_right [] ys i y e = let z : 0 + i ≡ i = omega arith in ap (slice_get ys) z ∙ e
get_right (x ∷ xs) ys i y e = let z : suc (length xs) + i ≡ suc (length xs + i) = omega arith
    in ap (slice_get (x ∷ (xs ++ ys))) z ∙ get_right xs ys i y e

pub get_last : {X : Type 0} (xs : List X) (x : X) → slice_get (xs ++ x ∷ []) (length xs) ≡ Some x
get_last [] x = refl
get_last (y ∷ xs) x = get_last xs x

pub get_set : {X : Type 0} (xs : List X) (i : ℕ) (x : X) → i < length xs
    → slice_get (slice_set xs i x) i ≡ Some x
get_set [] i x h = absurd (omega arith)
get_set (y ∷ xs) zero x h = refl
get_set (y ∷ xs) (suc i) x h = get_set xs i x (omega arith)

pub length_set : {X : Type 0} (xs : List X) (i : ℕ) (x : X) → length (slice_set xs i x) ≡ length xs
length_set [] i x = refl
length_set (y ∷ xs) zero x = refl
length_set (y ∷ xs) (suc i) x = ap suc (length_set xs i x)

-- ---- parts

pub drop_again : {X : Type 0} (xs : List X) (i : ℕ) → drop 1 (drop i xs) ≡ drop (suc i) xs
drop_again [] zero = refl
drop_again [] (suc i) = refl
drop_again (x ∷ xs) zero = refl
drop_again (x ∷ xs) (suc i) = drop_again xs i

pub drop_past : {X : Type 0} (xs : List X) (i : ℕ) → length xs ≤ i → drop i xs ≡ []
drop_past [] zero le = refl
drop_past [] (suc i) le = refl
drop_past (y ∷ ys) zero le = absurd (omega arith)
drop_past (y ∷ ys) (suc i) le = drop_past ys i (omega arith)

pub drop_before : {X : Type 0} (xs ys : List X) → drop (length xs) (xs ++ ys) ≡ ys
drop_before [] ys = refl
drop_before (x ∷ xs) ys = drop_before xs ys

pub drop_at : {X : Type 0} (xs : List X) (i : ℕ) (x : X) → i < length xs
    → drop i xs ≡ get_or xs i x ∷ drop (suc i) xs
drop_at [] i x h = absurd (omega (arith, h))
drop_at (y ∷ xs) zero x h = refl
drop_at (y ∷ xs) (suc i) x h = drop_at xs i x (omega (arith, h))

pub drop_next : {X : Type 0} (xs : List X) (i : ℕ) (x : X) → i < length xs
    → drop i xs ≡ get_or xs i x ∷ drop (i + 1) xs
drop_next xs i x lt = let e : suc i ≡ i + 1 = omega arith
    in drop_at xs i x lt ∙ ap (λ k. get_or xs i x ∷ drop k xs) e

pub take_next : {X : Type 0} (xs : List X) (i : ℕ) (x : X) → i < length xs → x ≡ get_or xs i x
    → take (i + 1) xs ≡ take i xs ++ x ∷ []
take_next xs i x lt e = take_more xs i x lt ∙ ap (λ y. take i xs ++ y ∷ []) (sym e)

-- ---- maps

pub length_map : {X Y : Type 0} (f : X → Y) (xs : List X) → length (map f xs) ≡ length xs
length_map f [] = refl
length_map f (x ∷ xs) = ap suc (length_map f xs)

pub map_append : {X Y : Type 0} (f : X → Y) (xs ys : List X) → map f (xs ++ ys) ≡ map f xs
    ++ map f ys
map_append f [] ys = refl
map_append f (x ∷ xs) ys = ap (λ l. f x ∷ l) (map_append f xs ys)

pub map_push : {X Y : Type 0} (f : X → Y) (xs : List X) (x : X) → map f (xs ++ x ∷ []) ≡ map f xs
    ++ f x ∷ []
map_push f [] x = refl
map_push f (y ∷ xs) x = ap (λ w. f y ∷ w) (map_push f xs x)

pub map_get : {X Y : Type 0} (f : X → Y) (xs : List X) (i : ℕ) (x : X) → slice_get xs i ≡ Some x
    → slice_get (map f xs) i ≡ Some (f x)
map_get f [] i x e = none_is_some e
map_get f (y ∷ xs) zero x e = ap (λ z. Some (f z)) (some_is e)
map_get f (y ∷ xs) (suc i) x e = map_get f xs i x e

-- ---- what holds of all items

pub all_append : {X : Type 0} (P : X → Type 0) (xs ys : List X) → AllOf P xs → AllOf P ys
    → AllOf P (xs ++ ys)
all_append P [] ys h k = k
all_append P (x ∷ xs) ys h k = (h.0, all_append P xs ys h.1 k)

pub all_push : {X : Type 0} (P : X → Type 0) (xs : List X) (x : X) → AllOf P xs → P x
    → AllOf P (xs ++ x ∷ [])
all_push P [] x h k = (k, tt)
all_push P (y ∷ xs) x h k = (h.0, all_push P xs x h.1 k)

pub all_get : {X : Type 0} (P : X → Type 0) (xs : List X) (i : ℕ) (x : X) → AllOf P xs
    → slice_get xs i ≡ Some x → P x
all_get P [] i x h e = absurd cc
all_get P (y ∷ xs) zero x h e = let q : y ≡ x = cc in subst P q h.0
all_get P (y ∷ xs) (suc i) x h e = all_get P xs i x h.1 e

pub all_set : {X : Type 0} (P : X → Type 0) (xs : List X) (i : ℕ) (x : X) → AllOf P xs → P x
    → AllOf P (slice_set xs i x)
all_set P [] i x h e = tt
all_set P (y ∷ xs) zero x h e = (e, h.1)
all_set P (y ∷ xs) (suc i) x h e = (h.0, all_set P xs i x h.1 e)

pub all_filter : {X : Type 0} (P : X → Type 0) (t : X → Bool) (xs : List X) → AllOf P xs
    → AllOf P (filter t xs)
all_filter P t [] a = tt
all_filter P t (x ∷ xs) a = by_test (t x) (all_filter P t xs a.1)
  where
    by_test : (b : Bool) → AllOf P (filter t xs) → AllOf P (cond b (x ∷ filter t xs) (filter t xs))
    by_test true r = (a.0, r)
    by_test false r = r

pub map_same : {X : Type 0} (l : List X) → map (λ x. x) l ≡ l
map_same [] = refl
map_same (x ∷ l) = ap (λ k. x ∷ k) (map_same l)
