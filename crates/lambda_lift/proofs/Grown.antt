-- The functions that are made of lambdas and local functions, behind others.
use Rattle.std.proofs.Common.{◌≡◌, ℕ, suc, ◌+◌, List, [], ◌∷◌, ◌++◌, map, set, length, refl, sym, ap, ◌∙◌, arith, append_assoc, length-append}
use Rattle.std.proofs.lemmas.List.{append-nil, length-map, set_at}
use Rattle.core_reader.specs.declared.syntax.Function as code-function
use Rattle.core_reader.specs.Tree as core
use Rattle.lambda_reader.specs.Tree.{Term, Program}
use Rattle.lambda_reader.specs.Code.{terms_of}
use Rattle.arity_check.specs.Scope.{Scope}
use Rattle.lambda_lift.specs.Abstractions.{Abstraction, count_term, count_terms}
use Rattle.lambda_lift.specs.Lifted.{lifted_function, lifted_functions, lift_term, lift_terms}
use Rattle.lambda_lift.specs.Growing.{with_lifted_functions}

module _ (c : Program) where
  pub functions_joined : (k : ℕ) (xs ys : List Abstraction)
      → lifted_functions c k (xs ++ ys) ≡ lifted_functions c k xs
      ++ lifted_functions c (k + length xs) ys
  functions_joined k [] ys = ap (λ n. lifted_functions c n ys) (omega arith)
  functions_joined k (x ∷ xs) ys =
      let n : suc k + length xs ≡ k + length (x ∷ xs) = omega arith in
      ap (λ w. lifted_function c k x ∷ w)
      (functions_joined (suc k) xs ys ∙ ap
      (λ n. lifted_functions c (suc k) xs ++ lifted_functions c n ys) n)

  functions_count : (k : ℕ) (xs : List Abstraction) → length (lifted_functions c k xs) ≡ length xs
  functions_count k [] = refl
  functions_count k (x ∷ xs) = ap suc (functions_count (suc k) xs)

  pub grows_count : (made : List core.Function) (xs : List Abstraction)
      → length (with_lifted_functions c made xs) ≡ length made + length xs
  unfolding with_lifted_functions
  grows_count made xs = length-append made (lifted_functions c (length made) xs) ∙ ap
      (λ n. length made + n) (functions_count (length made) xs)

  pub grows_joined : (made : List core.Function) (xs ys : List Abstraction)
      → with_lifted_functions c made (xs ++ ys) ≡ with_lifted_functions c
      (with_lifted_functions c made xs) ys
  unfolding with_lifted_functions
  grows_joined made xs ys =
      ap (λ w. made ++ w) (functions_joined (length made) xs ys) ∙ sym
      (append_assoc made (lifted_functions c (length made) xs)
      (lifted_functions c (length made + length xs) ys))
      ∙ sym (ap (λ n. (made ++ lifted_functions c (length made) xs) ++ lifted_functions c n ys)
      (grows_count made xs))

  pub grows_none : (made : List core.Function) → with_lifted_functions c made [] ≡ made
  unfolding with_lifted_functions
  grows_none made = append-nil made

  -- a function that stands for one to come is replaced by it
  pub replaced : (made : List core.Function) (other f : core.Function) (a : Abstraction)
      (rest : List Abstraction) → f ≡ lifted_function c (length made) a
      → set (with_lifted_functions c (made ++ other ∷ []) rest) (length made) f ≡
      with_lifted_functions c made (a ∷ rest)
  unfolding with_lifted_functions
  replaced made other f a rest e =
      let n : length (made ++ other ∷ []) ≡ suc (length made) = simp length-append (omega arith) in
      let tail : List core.Function = lifted_functions c (suc (length made)) rest in
      ap (λ w. set w (length made) f)
      (ap (λ n. (made ++ other ∷ []) ++ lifted_functions c n rest) n ∙ append_assoc made
      (other ∷ []) tail)
      ∙ set_at made other tail f (length made) refl ∙ ap (λ g. made ++ g ∷ tail) e

  -- how many code has made
  pub made_count : (made made' : List code-function.Function) (xs : List Abstraction)
      → map core.function made' ≡ with_lifted_functions c (map core.function made) xs
      → length made' ≡ length made + length xs
  made_count made made' xs e = sym (length-map made' core.function) ∙ ap length e ∙ grows_count
      (map core.function made) xs ∙ ap (λ n. n + length xs) (length-map made core.function)

  -- ---- arguments

  abbrev lift_list : Scope → ℕ → List Term → List core.Term
  lift_list s k [] = []
  lift_list s k (t ∷ ts) = lift_term c s k t ∷ lift_list s (k + count_term c s t) ts

  list_is : (s : Scope) (k : ℕ) (ts : List Term) → lift_terms c s k (terms_of ts) ≡ core.terms_of
      (lift_list s k ts)
  list_is s k [] = refl
  list_is s k (t ∷ ts) = ap (core.AndTerm (lift_term c s k t)) (list_is s (k + count_term c s t) ts)

  list_more : (s : Scope) (k : ℕ) (ts : List Term) (t : Term)
      → lift_list s k (ts ++ t ∷ []) ≡ lift_list s k ts
      ++ lift_term c s (k + count_terms c s (terms_of ts)) t ∷ []
  list_more s k [] t = ap (λ n. lift_term c s n t ∷ []) (omega arith)
  list_more s k (x ∷ ts) t =
      let n : (k + count_term c s x) + count_terms c s (terms_of ts) ≡ k + count_terms c s
      (terms_of (x ∷ ts)) = simp length-append (omega arith) in
      ap (λ w. lift_term c s k x ∷ w)
      (list_more s (k + count_term c s x) ts t ∙ ap
      (λ n. lift_list s (k + count_term c s x) ts ++ lift_term c s n t ∷ []) n)

  terms_one : (us ws : List core.Term) → core.terms_of us ≡ core.terms_of ws → us ≡ ws
  terms_one [] [] e = refl
  terms_one [] (w ∷ ws) e = absurd (cc)
  terms_one (u ∷ us) [] e = absurd (cc)
  terms_one (u ∷ us) (w ∷ ws) e = let a : u ≡ w = cc in let b : core.terms_of us ≡ core.terms_of ws
      = cc in λ i. a i ∷ terms_one us ws b i

  -- one more argument
  pub terms_more : (s : Scope) (k : ℕ) (us : List core.Term) (u : core.Term) (ts : List Term)
      (t : Term) → core.terms_of us ≡ lift_terms c s k (terms_of ts)
      → u ≡ lift_term c s (k + count_terms c s (terms_of ts)) t
      → core.terms_of (us ++ u ∷ []) ≡ lift_terms c s k (terms_of (ts ++ t ∷ []))
  terms_more s k us u ts t e f =
      let same : us ≡ lift_list s k ts = terms_one us (lift_list s k ts) (e ∙ list_is s k ts) in
      (λ i. core.terms_of (same i ++ f i ∷ [])) ∙ sym (ap core.terms_of (list_more s k ts t)) ∙ sym
      (list_is s k (ts ++ t ∷ []))
