-- Variables that are numbered on, and the words of a call in them.
use Rattle.std.proofs.Common.{◌≡◌, inl, inr, ◌≤◌, ◌<◌, ℕ, zero, suc, ◌+◌, ◌-◌, false, cond, List, [], ◌∷◌, ◌++◌, length, take, drop, Some, refl, ap, ◌∙◌, arith, length-append}
use Rattle.std.specs.Prelude.{nat_eq}
use Rattle.std.proofs.lemmas.Bool.{eq-eqb}
use Rattle.std.proofs.lemmas.Bool.Decides.{eqb_tells}
use Rattle.std.proofs.lemmas.List.{length-take}
use Rattle.low_code.specs.Tree as low_tree
use Rattle.low_code.specs.Values as low
use Rattle.low_code.specs.Values.{Word, with_var, and_then}
use Rattle.low_code.specs.Run.{operands}
use Rattle.low_translate.specs.Translation.{variables_of}
use Rattle.low_translate.proofs.Images.{fit}
use Rattle.low_translate.proofs.Operands.{bound}
use Rattle.low_translate.proofs.Pieces.{bound_other}
use Rattle.seq.specs.Lists.{numbers_from, times}
use Rattle.seq.proofs.Counted.{length_numbers}

-- ---- variables of their own

pub apart_numbers : (n k x : ℕ) → x < n → times x (numbers_from n k) ≡ 0
apart_numbers n zero x lt = refl
apart_numbers n (suc k) x lt = let h = apart_numbers (suc n) k x (omega (arith, lt)) in
    ap (λ b. cond b 1 0 + times x (numbers_from (suc n) k)) (differ x n lt) ∙ omega (arith, h)
  where
    differ : (x n : ℕ) → x < n → nat_eq x n ≡ false
    differ x n lt = elim (eqb_tells x n)
        [ inl h ↦ absurd (let e = h.1 in omega (arith, e, lt)) | inr h ↦ h.0 ]

-- words of a call in the variables of its target, and zeros in those that are left
pub call_bound : (r : ℕ) (xs : List ℕ) (n : ℕ) (ws : List Word) (e : low.Env) → length ws ≤ r
    → (x : ℕ) → x < n
    → bound (drop r xs) (fit (length (drop r xs)) [])
    (bound (take r xs ++ numbers_from n (r - length xs)) (fit r ws) e) x ≡ bound xs
    (fit (length xs) ws) e x
call_bound zero [] n ws e le x lt = let z : 0 - 0 ≡ 0 = omega arith
    in ap (λ k. bound (numbers_from n k) [] e x) z
call_bound zero (y ∷ xs) n [] e le x lt = let z : 0 - suc (length xs) ≡ 0 = omega arith
    in ap (λ k. bound (y ∷ xs) (fit (suc (length xs)) []) (bound (numbers_from n k) [] e) x) z
call_bound zero (y ∷ xs) n (w ∷ ws) e le x lt = absurd (omega (arith, le))
call_bound (suc r) [] n ws e le x lt = let z : suc r - 0 ≡ suc r = omega arith
    in ap (λ k. bound (numbers_from n k) (fit (suc r) ws) e x) z ∙ bound_other
    (numbers_from n (suc r)) (fit (suc r) ws) e x (apart_numbers n (suc r) x lt)
call_bound (suc r) (y ∷ xs) n [] e le x lt = let z : suc r - suc (length xs) ≡ r - length xs
    = omega arith in
    ap (λ k. bound (drop r xs) (fit (length (drop r xs)) [])
    (bound (take r xs ++ numbers_from n k) (fit r []) (with_var y (low.number 0) e)) x) z ∙
    call_bound r xs n [] (with_var y (low.number 0) e) (omega arith) x lt
call_bound (suc r) (y ∷ xs) n (w ∷ ws) e le x lt = let z : suc r - suc (length xs) ≡ r - length xs
    = omega arith in
    ap (λ k. bound (drop r xs) (fit (length (drop r xs)) [])
    (bound (take r xs ++ numbers_from n k) (fit r ws) (with_var y w e)) x) z ∙ call_bound r xs n
    ws (with_var y w e) (omega (arith, le)) x lt

pub call_many : (r : ℕ) (xs : List ℕ) (n : ℕ) → length (take r xs ++ numbers_from n (r - length xs))
    ≡ r
call_many r xs n = length-append (take r xs) (numbers_from n (r - length xs)) ∙
    (let a = length-take r xs in let b = length_numbers n (r - length xs) in omega (arith, a, b))

-- the words of numbered variables
pub numbered : (p : low_tree.Program) (fw : ℕ → ℕ) (n k : ℕ) (ws : List Word) (e e' : low.Env)
    → length ws ≡ k → ((x : ℕ) → x < n + k → e' x ≡ bound (numbers_from n k) ws e x)
    → operands p fw e' (variables_of (numbers_from n k)) ≡ Some ws
numbered p fw n zero [] e e' h f = refl
numbered p fw n zero (w ∷ ws) e e' h f = absurd (omega (arith, h))
numbered p fw n (suc k) [] e e' h f = absurd (omega (arith, h))
numbered p fw n (suc k) (w ∷ ws) e e' h f =
    let here : e' n ≡ Some w = f n (omega arith) ∙ bound_other (numbers_from (suc n) k) ws
    (with_var n w e) n (apart_numbers (suc n) k n (omega arith)) ∙ ap
    (λ b. cond b (Some w) (e n)) (eq-eqb n n refl) in
    let rest = numbered p fw (suc n) k ws (with_var n w e) e' (omega (arith, h))
    (λ x lt. f x (omega (arith, lt))) in
    (λ i. and_then (here i) (λ b. and_then (rest i) (λ bs. Some (b ∷ bs))))
