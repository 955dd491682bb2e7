-- An expression with lambdas does what its moves do.
use Rattle.std.proofs.Common.{◌≡◌, ℕ, suc, Bool, true, false, List, [], ◌∷◌, length, Option, Some, None, refl, sym}
use Rattle.std.specs.Prelude.{codes, slice_get}
use Rattle.core_reader.specs.declared.syntax.Pattern.TheVariants as pattern
use Rattle.lambda_reader.specs.Tree.{Expr, App, Let, Case, Alts, NoAlts, AndAlt, Function, Program}
use Rattle.arity_check.specs.Scope.{Scope, is_named, binds}
use Rattle.core_meaning.specs.Heap.{Call, Apply, Prim, Global, Input, Known, Waiting}
use Rattle.core_meaning.specs.Forcing as forcing
use Rattle.core_meaning.specs.Forcing.{DelayedEvaluatorOf, NoAlternative, and_then, is_con, is_int, fields_of, append}
use Rattle.lambda_lift.specs.Headers.{program_headers}
use Rattle.lambda_lift.specs.Meaning.{Fun, Top, Closure, Value, State, Answer, Binding, flat, arguments, members, bindings_of, in_group, with_all, number_of, arity, con_named, main, globals, global}
use Rattle.lambda_lift.specs.Meaning as lambdas
use Rattle.natural_semantics.specs.any.Moves.{Moves, end_as, perform}
use Rattle.natural_semantics.specs.any.Moves as any
use Rattle.natural_texts.specs.Lambdas.{moves_of, choice_of, top_of, body_of, lambda_program}

module _ (c : Program) (onward : DelayedEvaluatorOf Fun) where
  abbrev does : Moves Fun → ℕ → State → Answer
  does m d s = perform (arity c) (λ s. NoAlternative s) onward m d s

  ended : (b : Binding) (d : ℕ) (s : State)
      → lambdas.does c onward b d s ≡ end_as (arity c) (λ s. NoAlternative s) onward b d s
  ended (Known v) d s = refl
  ended (Waiting (Call f xs)) d s = refl
  ended (Waiting (Apply a xs)) d s = refl
  ended (Waiting (Prim op a b)) d s = refl
  ended (Waiting (Global f)) d s = refl
  ended (Waiting Input) d s = refl

  one_performed : (b : Bool) (x y : Answer) (m n : Moves Fun) (d : ℕ) (s : State)
      → x ≡ does m d s → y ≡ does n d s
      → elim b as (λ z. Answer) [ true ↦ x | false ↦ y ]
      ≡ does (elim b as (λ z. Moves Fun) [ true ↦ m | false ↦ n ]) d s
  one_performed true x y m n d s e f = e
  one_performed false x y m n d s e f = f

  mutual
    performed : (e : Expr) (env : Scope) (d : ℕ) (s : State)
        → lambdas.eval c onward e env d s ≡ does (moves_of c e env) d s
    performed (App head args) env d s =
        ended (flat c env (length s.heap) head (arguments c env args)).form d
        (append s (flat c env (length s.heap) head (arguments c env args)).news)
    performed (Let group body) env d s =
        let inner : Scope = in_group c env (length s.heap) group in
        performed body inner d
        (append s (bindings_of c (members c inner (length s.heap) group)))
    performed (Case tested alts) env d s =
        λ i. and_then (performed tested env (suc d) s i)
        (λ v s. choice_performed alts v env d s i)

    choice_performed : (as' : Alts) (v : Value) (env : Scope) (d : ℕ) (s : State)
        → lambdas.select c onward as' v env d s ≡ does (choice_of c as' v env) d s
    choice_performed NoAlts v env d s = refl
    choice_performed (AndAlt (pattern.Con k fields) body rest) v env d s =
        one_performed (is_con (number_of c k.name.0) v) _ _ _ _ d s
        (performed body (with_all c fields (fields_of v) env) d s)
        (choice_performed rest v env d s)
    choice_performed (AndAlt (pattern.Int k at) body rest) v env d s =
        one_performed (is_int k v) _ _ _ _ d s (performed body env d s)
        (choice_performed rest v env d s)
    choice_performed (AndAlt (pattern.Default x) body rest) v env d s =
        one_performed (is_named (program_headers c) (codes "_") x.name.0) _ _ _ _ d s
        (performed body env d s)
        (performed body (binds (program_headers c) x.name.0 (length s.heap) env) d
        (append s (Known v ∷ [])))

  top_entered : (o : Option Function) (xs : List ℕ) (d : ℕ) (s : State)
      → lambdas.enter_top c onward o xs d s ≡ does (top_of c o xs) d s
  top_entered None xs d s = refl
  top_entered (Some f) xs d s = performed f.body (with_all c f.params xs []) d s

  entered : (f : Fun) (xs : List ℕ) (d : ℕ) (s : State)
      → lambdas.enter c onward f xs d s ≡ does (body_of c f xs) d s
  entered (Top f) xs d s = top_entered (slice_get c.functions f) xs d s
  entered (Closure params body env) xs d s = performed body (with_all c params xs env) d s

-- so a text's runs are those of its moves
pub runs_performed : (c : Program)
    → any.printed (lambda_program c) ≡ lambdas.printed c
runs_performed c =
    sym (λ j i n. forcing.printed (arity c) (λ s. NoAlternative s)
    (con_named c (codes "Nil")) (con_named c (codes "Cons"))
    (λ onward f xs d s. entered c onward f xs d s j)
    (globals c c.functions 0) (Top (main c)) (global c (main c)) i n)
