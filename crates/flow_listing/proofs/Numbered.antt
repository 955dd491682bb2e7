-- What items give by their places, as a list of them grows at its end.
use Rattle.std.proofs.Common.{◌≡◌, ℕ, ◌<◌, ◌≤◌, ◌+◌, zero, suc, List, [], ◌∷◌, ◌++◌, map, take, length, get_or, refl, sym, ap, ◌∙◌, append_assoc, arith}
use Rattle.std.proofs.lemmas.List.{take_all, length-take-le, get_or_default}
use Rattle.std.specs.Prelude.{codes}
use Rattle.std.specs.List.{flat_map}
use Rattle.seq.specs.Lists.{numbers_from}
use Rattle.seq.proofs.Lists.{append_nil, take_next}
use Rattle.grin_syntax.specs.Listing.{spaced}
use Rattle.flow_listing.specs.Ascending.{flat_map_indexed}

module _ {A B : Type 0} (f : ℕ → A → List B) where
  flat_push : (k : ℕ) (xs : List A) (x : A) → flat_map_indexed f k (xs ++ x ∷ []) ≡ flat_map_indexed
      f k xs ++ f (k + length xs) x
  flat_push k [] x = append_nil (f k x) ∙ (let e : k ≡ k + 0 = omega arith in ap (λ n. f n x) e)
  flat_push k (y ∷ ys) x =
      ap (λ l. f k y ++ l) (flat_push (suc k) ys x) ∙ sym
      (append_assoc (f k y) (flat_map_indexed f (suc k) ys) (f (suc k + length ys) x))
      ∙ (let e : suc k + length ys ≡ k + length (y ∷ ys) = omega arith
      in ap (λ n. (f k y ++ flat_map_indexed f (suc k) ys) ++ f n x) e)

  -- one item more
  pub flat_next : (xs : List A) (i n : ℕ) (x : A) (t0 t t' : List B) → i < length xs
      → x ≡ get_or xs i x → n ≡ i → t ≡ t0 ++ flat_map_indexed f 0 (take i xs) → t' ≡ t ++ f n x
      → t' ≡ t0 ++ flat_map_indexed f 0 (take (i + 1) xs)
  flat_next xs i n x t0 t t' lt e c h step =
      let l : length (take i xs) ≡ i = length-take-le i xs (omega (arith, lt)) in
      step ∙ ap (λ s. s ++ f n x) h ∙ append_assoc t0 (flat_map_indexed f 0 (take i xs)) (f n x)
      ∙ ap (λ m. t0 ++ (flat_map_indexed f 0 (take i xs) ++ f m x))
      (let e : n ≡ 0 + length (take i xs) = omega (arith, c, l) in e)
      ∙ ap (λ s. t0 ++ s) (sym (flat_push 0 (take i xs) x))
      ∙ ap (λ ys. t0 ++ flat_map_indexed f 0 ys) (sym (take_next xs i x lt e))

  pub flat_more : (xs : List A) (i n : ℕ) (d : A) (t0 t t' : List B) → i < length xs → n ≡ i
      → t ≡ t0 ++ flat_map_indexed f 0 (take i xs) → t' ≡ t ++ f n (get_or xs i d) → t' ≡ t0
      ++ flat_map_indexed f 0 (take (i + 1) xs)
  flat_more xs i n d t0 t t' lt c h step = flat_next xs i n (get_or xs i d) t0 t t' lt
      (get_or_default xs i d (get_or xs i d) lt) c h step

  pub flat_done : (xs : List A) (i : ℕ) (t0 t : List B) → length xs ≤ i → t ≡ t0
      ++ flat_map_indexed f 0 (take i xs) → t ≡ t0 ++ flat_map_indexed f 0 xs
  flat_done xs i t0 t le h = h ∙ ap (λ ys. t0 ++ flat_map_indexed f 0 ys) (take_all i xs le)

-- items that stand for others
pub flat_from_map : {A B C : Type 0} (g : A → B) (f : ℕ → B → List C) (k : ℕ) (xs : List A)
    → flat_map_indexed f k (map g xs) ≡ flat_map_indexed (λ n x. f n (g x)) k xs
flat_from_map g f k [] = refl
flat_from_map g f k (x ∷ xs) = ap (λ l. f k (g x) ++ l) (flat_from_map g f (suc k) xs)

pub flat_map_map : {A B C : Type 0} (g : A → B) (f : B → List C) (xs : List A)
    → flat_map f (map g xs) ≡ flat_map (λ x. f (g x)) xs
flat_map_map g f [] = refl
flat_map_map g f (x ∷ xs) = ap (λ l. f (g x) ++ l) (flat_map_map g f xs)

-- numbers from 0 on, one more
numbers_more : (n k : ℕ) → numbers_from n (suc k) ≡ numbers_from n k ++ (n + k) ∷ []
numbers_more n zero = (let e : n ≡ n + 0 = omega arith in ap (λ m. m ∷ []) e)
numbers_more n (suc k) = ap (λ l. n ∷ l) (numbers_more (suc n) k) ∙
    (let e : suc n + k ≡ n + suc k = omega arith in ap (λ m. (n ∷ numbers_from (suc n) k) ++ m ∷ [])
    e)

flat_append : {A B : Type 0} (f : A → List B) (xs ys : List A)
    → flat_map f (xs ++ ys) ≡ flat_map f xs ++ flat_map f ys
flat_append f [] ys = refl
flat_append f (x ∷ xs) ys = ap (λ l. f x ++ l) (flat_append f xs ys) ∙ sym
    (append_assoc (f x) (flat_map f xs) (flat_map f ys))

-- the text of one number more
pub spaced_more : (f : ℕ → List ℕ) (k : ℕ) (t0 t t' t'' : List ℕ) → t ≡ t0
    ++ spaced f (numbers_from 0 k) → t' ≡ t ++ codes " " → t'' ≡ t' ++ f k → t'' ≡ t0
    ++ spaced f (numbers_from 0 (k + 1))
spaced_more f k t0 t t' t'' h e e' =
    let s : ℕ → List ℕ = λ n. codes " " ++ f n in
    let m : numbers_from 0 (k + 1) ≡ numbers_from 0 k ++ k ∷ []
    = (let p : k + 1 ≡ suc k = omega arith in ap (numbers_from 0) p) ∙ numbers_more 0 k ∙
    (let z : 0 + k ≡ k = omega arith in ap (λ m. numbers_from 0 k ++ m ∷ []) z) in
    e' ∙ (λ i. e i ++ f k) ∙ (λ i. (h i ++ codes " ") ++ f k) ∙ append_assoc
    (t0 ++ spaced f (numbers_from 0 k)) (codes " ") (f k)
    ∙ append_assoc t0 (spaced f (numbers_from 0 k)) (s k) ∙ ap
    (λ l. t0 ++ (spaced f (numbers_from 0 k) ++ l)) (sym (append_nil (s k)))
    ∙ ap (λ l. t0 ++ l) (sym (flat_append s (numbers_from 0 k) (k ∷ []))) ∙ ap
    (λ l. t0 ++ spaced f l) (sym m)

-- what one item more gives
pub mapped_next : {A B : Type 0} (f : A → List B) (xs : List A) (i : ℕ) (x : A) (t0 t t' : List B)
    → i < length xs → x ≡ get_or xs i x → t ≡ t0 ++ flat_map f (take i xs) → t' ≡ t ++ f x → t' ≡ t0
    ++ flat_map f (take (i + 1) xs)
mapped_next f xs i x t0 t t' lt e h step =
    step ∙ ap (λ s. s ++ f x) h ∙ append_assoc t0 (flat_map f (take i xs)) (f x)
    ∙ ap (λ s. t0 ++ (flat_map f (take i xs) ++ s)) (sym (append_nil (f x)))
    ∙ ap (λ s. t0 ++ s) (sym (flat_append f (take i xs) (x ∷ [])))
    ∙ ap (λ ys. t0 ++ flat_map f ys) (sym (take_next xs i x lt e))
