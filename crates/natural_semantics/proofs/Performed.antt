-- An expression of Core does what its moves do.
use Rattle.std.proofs.Common.{◌≡◌, ℕ, suc, Bool, true, false, List, [], ◌∷◌, map, length, Option, Some, None, refl}
use Rattle.std.specs.Prelude.{slice_get}
use Rattle.arity_check.specs.declared.normal.Flat.{Flat}
use Rattle.arity_check.specs.declared.normal.Flat.TheVariants as flat
use Rattle.arity_check.specs.Program.{Program, Function, Term, App, Let, Case, Branches, NoMore, OnCon, OnInt, OnAny}
use Rattle.core_meaning.specs.Heap.{Value, Known, Env, with_local, with_locals}
use Rattle.core_meaning.specs.Evaluation.{State, Answer, OutOfBound, and_then, append, DelayedEvaluator, params, nil, cons, global, globals, binding, with_group, parameters, is_con, fields_of, is_int}
use Rattle.core_meaning.specs.Forcing as forcing
use Rattle.core_meaning.specs.ByNeed as by_need
use Rattle.natural_semantics.specs.any.Moves.{Moves, perform}
use Rattle.natural_semantics.specs.any.Moves as any
use Rattle.natural_semantics.specs.CoreMoves.{moves_of, choice_of, body_of, core_program}

module _ (p : Program) (lost : State → Answer) (onward : DelayedEvaluator) where
  form_performed : (f : Flat) (env : Env) (d : ℕ) (s : State)
      → by_need.form 0 lost p onward env f d s
      ≡ perform (params p) lost onward (moves_of p (App f) env) d s
  form_performed (flat.Int k) env d s = refl
  form_performed (flat.Con c xs) env d s = refl
  form_performed (flat.Part f xs) env d s = refl
  form_performed (flat.Call f xs) env d s = refl
  form_performed (flat.Apply x xs) env d s = refl
  form_performed (flat.Prim op x y) env d s = refl

  -- one of two, as a test says
  one_performed : (b : Bool) (x y : Answer) (m n : Moves ℕ) (d : ℕ) (s : State)
      → x ≡ perform (params p) lost onward m d s → y ≡ perform (params p) lost onward n d s
      → elim b as (λ z. Answer) [ true ↦ x | false ↦ y ]
      ≡ perform (params p) lost onward (elim b as (λ z. Moves ℕ) [ true ↦ m | false ↦ n ]) d s
  one_performed true x y m n d s e f = e
  one_performed false x y m n d s e f = f

  mutual
    pub performed : (e : Term) (env : Env) (d : ℕ) (s : State)
        → by_need.eval 0 lost p onward e env d s
        ≡ perform (params p) lost onward (moves_of p e env) d s
    performed (App f) env d s = form_performed f env d s
    performed (Let group body) env d s =
        let inner : Env = with_group p env group (length s.heap) in
        performed body inner d (append s (map (λ b. binding p inner b.flat) group))
    performed (Case tested branches) env d s =
        λ i. and_then (performed tested env (suc d) s i)
        (λ v s. choice_performed branches v env d s i)

    choice_performed : (bs : Branches) (v : Value) (env : Env) (d : ℕ) (s : State)
        → by_need.select 0 lost p onward bs v env d s
        ≡ perform (params p) lost onward (choice_of p bs v env) d s
    choice_performed NoMore v env d s = refl
    choice_performed (OnCon c xs body rest) v env d s =
        one_performed (is_con c v) _ _ _ _ d s
        (performed body (with_locals env xs (fields_of v)) d s) (choice_performed rest v env d s)
    choice_performed (OnInt k body rest) v env d s =
        one_performed (is_int k v) _ _ _ _ d s
        (performed body env d s) (choice_performed rest v env d s)
    choice_performed (OnAny None body rest) v env d s = performed body env d s
    choice_performed (OnAny (Some x) body rest) v env d s =
        performed body (with_local env x (length s.heap)) d (append s (Known v ∷ []))

  entered : (o : Option Function) (xs : List ℕ) (d : ℕ) (s : State)
      → by_need.enter_body 0 lost p onward o xs d s
      ≡ perform (params p) lost onward (body_of p o xs) d s
  entered None xs d s = refl
  entered (Some g) xs d s = performed g.body (parameters xs) d s

-- so the program's runs are those of its moves
pub runs_performed : (p : Program) (i : List ℕ) (n : ℕ)
    → by_need.printed 0 (λ s. OutOfBound s) p i n ≡ any.printed (core_program p) i n
runs_performed p i n =
    λ j. forcing.printed (params p) (λ s. OutOfBound s) (nil p) (cons p)
    (λ onward f xs d s. entered p (λ s. OutOfBound s) onward (slice_get p.funs f) xs d s j)
    (globals p p.funs 0) p.main (global p p.main) i n
