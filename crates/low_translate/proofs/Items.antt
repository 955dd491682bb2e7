-- Items of lists by their places.
use Rattle.seq.proofs.Lists.{drop_again}
use Rattle.std.proofs.Common.{◌≡◌, ◌<◌, ℕ, zero, suc, ◌+◌, List, [], ◌∷◌, ◌++◌, length, drop, get_or, refl, sym, ap, ◌∙◌, arith}
use Rattle.low_code.specs.declared.program.Operand.{Operand}
use Rattle.low_code.specs.declared.program.Operand.TheVariants.{Num}
use Rattle.std.proofs.lemmas.List.{drop_more}
use Rattle.low_code.specs.Tree.{Code, set, save}
use Rattle.low_translate.specs.Translation.{results_of, nth_operand, padded_to_width, set_all, load_word, load_all, save_all, fill_word, fills}
use Rattle.seq.specs.Lists.{numbers_from}

pub results_of-get : (rs : List ℕ) (f : ℕ) → results_of rs f ≡ get_or rs f 0
results_of-get [] f = refl
results_of-get (x ∷ rs) zero = refl
results_of-get (x ∷ rs) (suc f) = results_of-get rs f

pub nth-get : (as' : List Operand) (i : ℕ) → nth_operand as' i ≡ get_or as' i (Num 0)
nth-get [] i = refl
nth-get (x ∷ as') zero = refl
nth-get (x ∷ as') (suc i) = nth-get as' i

-- one word more
pub fitted_more : (k : ℕ) (as' : List Operand) → padded_to_width (suc k) as' ≡ padded_to_width k as'
    ++ nth_operand as' k ∷ []
fitted_more zero [] = refl
fitted_more zero (a ∷ as') = refl
fitted_more (suc k) [] = ap (λ l. Num 0 ∷ l)
    (fitted_more k [] ∙ ap (λ a. padded_to_width k [] ++ a ∷ []) refl)
fitted_more (suc k) (a ∷ as') = ap (λ l. a ∷ l) (fitted_more k as')

pub numbers_more : (n k : ℕ) → numbers_from n (suc k) ≡ numbers_from n k ++ (n + k) ∷ []
numbers_more n zero = ap (λ m. m ∷ []) (omega arith)
numbers_more n (suc k) = ap (λ l. n ∷ l)
    (numbers_more (suc n) k ∙ ap (λ m. numbers_from (suc n) k ++ m ∷ []) (omega arith))

pub fitted_next : (k : ℕ) (as' : List Operand) (a : Operand) (old new : List Operand)
    → old ≡ padded_to_width k as' → a ≡ nth_operand as' k → new ≡ old ++ a ∷ []
    → new ≡ padded_to_width (k + 1) as'
fitted_next k as' a old new o e n = n ∙ (λ i. o i ++ e i ∷ []) ∙ sym (fitted_more k as') ∙
    (let e : suc k ≡ k + 1 = omega arith in ap (λ m. padded_to_width m as') e)

pub numbers_next : (start k next : ℕ) (x : ℕ) (old new : List ℕ) → next ≡ start + k
    → old ≡ numbers_from start k → x ≡ next → new ≡ old ++ x ∷ [] → new ≡ numbers_from start (k + 1)
numbers_next start k next x old new t o e n =
    let q : x ≡ start + k = e ∙ t in
    n ∙ (λ i. o i ++ q i ∷ []) ∙ sym (numbers_more start k) ∙
    (let h : suc k ≡ k + 1 = omega arith in ap (numbers_from start) h)

nth-drop : (as' : List Operand) (i : ℕ) → nth_operand (drop i as') 0 ≡ nth_operand as' i
nth-drop [] zero = refl
nth-drop [] (suc i) = refl
nth-drop (a ∷ as') zero = refl
nth-drop (a ∷ as') (suc i) = nth-drop as' i

-- ---- one statement more

sets_first : (x : ℕ) (xs : List ℕ) (as' : List Operand) (c : Code)
    → set_all (x ∷ xs) as' c ≡ set x (nth_operand as' 0) (set_all xs (drop 1 as') c)
sets_first x xs [] c = refl
sets_first x xs (a ∷ as') c = refl

pub sets_step : (xs : List ℕ) (as' : List Operand) (i : ℕ) (a : Operand) → i < length xs
    → a ≡ nth_operand as' i
    → (c : Code) → set_all (drop i xs) (drop i as') c ≡ set (get_or xs i 0) a
    (set_all (drop (i + 1) xs) (drop (i + 1) as') c)
sets_step xs as' i a lt e c =
    let one : suc i ≡ i + 1 = omega arith in
    ap (λ l. set_all l (drop i as') c) (drop_more xs i 0 lt) ∙ sets_first _ _ (drop i as') c
    ∙ (λ j. set (get_or xs i 0) ((nth-drop as' i ∙ sym e) j)
    (set_all (drop (i + 1) xs) ((drop_again as' i ∙ ap (λ k. drop k as') one) j) c))

pub loads_step : (width : ℕ) (xs : List ℕ) (a : Operand) (i : ℕ) → i < length xs → (c : Code)
    → load_all width (drop i xs) a i c ≡ load_word width (get_or xs i 0) a i
    (load_all width (drop (i + 1) xs) a (i + 1) c)
loads_step width xs a i lt c = ap (λ l. load_all width l a i c) (drop_more xs i 0 lt) ∙ ap
    (λ k. load_word width (get_or xs i 0) a i (load_all width (drop (i + 1) xs) a k c))
    (omega arith)

pub saves_step : (a : Operand) (as' : List Operand) (i : ℕ) (d : Operand) → i < length as'
    → (c : Code) → save_all a i (drop i as') c ≡ save a i (get_or as' i d)
    (save_all a (i + 1) (drop (i + 1) as') c)
saves_step a as' i d lt c = ap (λ l. save_all a i l c) (drop_more as' i d lt) ∙ ap
    (λ k. save a i (get_or as' i d) (save_all a k (drop (i + 1) as') c)) (omega arith)

pub fills_step : (a : Operand) (as' : List Operand) (i : ℕ) (d : Operand) → i < length as'
    → (c : Code) → fills a i (drop i as') c ≡ fill_word a i (get_or as' i d)
    (fills a (i + 1) (drop (i + 1) as') c)
fills_step a as' i d lt c = ap (λ l. fills a i l c) (drop_more as' i d lt) ∙ ap
    (λ k. fill_word a i (get_or as' i d) (fills a k (drop (i + 1) as') c)) (omega arith)
