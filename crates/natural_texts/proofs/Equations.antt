-- A function by equations does what its moves do.
use Rattle.std.proofs.Common.{◌≡◌, ℕ, suc, Bool, true, false, List, [], ◌∷◌, ◌++◌, refl, sym}
use Rattle.std.specs.Prelude.{slice_get}
use Rattle.core_meaning.specs.Evaluation.{State, Answer, NoAlternative, and_then, is_con, fields_of, is_int, DelayedEvaluator, nil, cons, global, params, globals, parameters, force, eval}
use Rattle.core_meaning.specs.Forcing as forcing
use Rattle.match_compile.specs.Form.{Form, Any, Is, Has, Forms, NoForms, AndForm, Row, Equations}
use Rattle.match_compile.specs.ByEquations.{without_bodies, rows_of}
use Rattle.match_compile.specs.ByEquations as equations
use Rattle.natural_semantics.specs.any.Moves.{Moves, perform}
use Rattle.natural_semantics.specs.any.Moves as any
use Rattle.natural_semantics.specs.CoreMoves.{moves_of}
use Rattle.natural_semantics.proofs.Performed as core
use Rattle.natural_texts.specs.Equations.{match_of, matches_of, tries_of, equation_program}

module _ (q : Equations) (onward : DelayedEvaluator) where
  abbrev does : Moves ℕ → ℕ → State → Answer
  does m d s = perform (params (without_bodies q)) (λ s. NoAlternative s) onward m d s

  one_performed : (b : Bool) (x y : Answer) (m n : Moves ℕ) (d : ℕ) (s : State)
      → x ≡ does m d s → y ≡ does n d s
      → elim b as (λ z. Answer) [ true ↦ x | false ↦ y ]
      ≡ does (elim b as (λ z. Moves ℕ) [ true ↦ m | false ↦ n ]) d s
  one_performed true x y m n d s e f = e
  one_performed false x y m n d s e f = f

  mutual
    match_performed : (p : Form) (a : ℕ) (bound : List ℕ) (d : ℕ) (s : State)
        (go : List ℕ → State → Answer) (fails : State → Answer) (gone : List ℕ → Moves ℕ)
        (failed : Moves ℕ)
        → ((xs : List ℕ) (s : State) → go xs s ≡ does (gone xs) d s)
        → ((s : State) → fails s ≡ does failed d s)
        → equations.match q onward p a bound d s go fails
        ≡ does (match_of p a bound gone failed) d s
    match_performed Any a bound d s go fails gone failed g f = g (bound ++ a ∷ []) s
    match_performed (Is k) a bound d s go fails gone failed g f =
        λ i. and_then (force (without_bodies q) onward a (suc d) s)
        (λ v s. one_performed (is_int k v) (go bound s) (fails s) (gone bound) failed d s
        (g bound s) (f s) i)
    match_performed (Has k fields) a bound d s go fails gone failed g f =
        λ i. and_then (force (without_bodies q) onward a (suc d) s)
        (λ v s. one_performed (is_con k v)
        (equations.matches q onward fields (fields_of v) bound d s go fails) (fails s)
        (matches_of fields (fields_of v) bound gone failed) failed d s
        (matches_performed fields (fields_of v) bound d s go fails gone failed g f) (f s) i)

    matches_performed : (ps : Forms) (as' bound : List ℕ) (d : ℕ) (s : State)
        (go : List ℕ → State → Answer) (fails : State → Answer) (gone : List ℕ → Moves ℕ)
        (failed : Moves ℕ)
        → ((xs : List ℕ) (s : State) → go xs s ≡ does (gone xs) d s)
        → ((s : State) → fails s ≡ does failed d s)
        → equations.matches q onward ps as' bound d s go fails
        ≡ does (matches_of ps as' bound gone failed) d s
    matches_performed NoForms as' bound d s go fails gone failed g f = g bound s
    matches_performed (AndForm p ps) [] bound d s go fails gone failed g f = f s
    matches_performed (AndForm p ps) (a ∷ as') bound d s go fails gone failed g f =
        match_performed p a bound d s (λ xs s. equations.matches q onward ps as' xs d s go fails)
        fails
        (λ xs. matches_of ps as' xs gone failed) failed
        (λ xs s. matches_performed ps as' xs d s go fails gone failed g f) f

  tried : (gs : List Row) (as' : List ℕ) (d : ℕ) (s : State)
      → equations.tries q onward gs as' d s ≡ does (tries_of q gs as') d s
  tried [] as' d s = refl
  tried (g ∷ gs) as' d s =
      matches_performed g.pats as' [] d s
      (λ xs s. eval (without_bodies q) onward g.body (parameters xs) d s)
      (λ s. equations.tries q onward gs as' d s)
      (λ xs. moves_of (without_bodies q) g.body (parameters xs)) (tries_of q gs as')
      (λ xs s. core.performed (without_bodies q) (λ s. NoAlternative s) onward g.body
      (parameters xs) d s)
      (λ s. tried gs as' d s)

-- so the runs of equations are those of their moves
pub runs_performed : (q : Equations) → any.printed (equation_program q) ≡ equations.printed q
runs_performed q =
    sym (λ j i n. forcing.printed (params (without_bodies q)) (λ s. NoAlternative s)
    (nil (without_bodies q)) (cons (without_bodies q))
    (λ onward f xs d s. tried q onward (rows_of (slice_get q.funs f)) xs d s j)
    (globals (without_bodies q) (without_bodies q).funs 0) q.main
    (global (without_bodies q) q.main) i n)
