-- The evaluation of equations by need: Forcing, where the entry of a function tries its equations
-- from the top.
use Rattle.std.specs.Prelude.{ℕ, suc, true, false, List, [], ◌∷◌, ◌++◌, map, pos, Option, Some, None, slice_get}
use Rattle.arity_check.specs.declared.normal.Flat.TheVariants as flat
use Rattle.arity_check.specs.Program as normal
use Rattle.headline.specs.Carries.{Meaning}
use Rattle.core_meaning.specs.Forcing as forcing
use Rattle.core_meaning.specs.Evaluation.{State, Answer, NoAlternative, and_then, is_con, fields_of, is_int, DelayedEvaluator, nil, cons, global, params, globals, parameters, force, eval}
use Rattle.core_meaning.specs.Told.{meaning_end}
use Rattle.match_compile.specs.Form.{Form, Any, Is, Has, Forms, NoForms, AndForm, Row, Rows, Equations}

-- the program with the same functions, whatever their bodies
abbrev pub as_function : Rows → normal.Function
as_function f =
    record { name = f.name; params = f.params; body = normal.App (flat.Int (pos 0)) }

abbrev pub without_bodies : Equations → normal.Program
without_bodies q = record { cons = q.cons; funs = map as_function q.funs; main = q.main }

abbrev pub rows_of : Option Rows → List Row
rows_of None = []
rows_of (Some f) = f.rows

module _ (q : Equations) where
  module _ (onward : DelayedEvaluator) where
    abbrev mutual
      -- a value is matched with a pattern, and goes on with the names that the pattern binds, or
      -- fails
      pub match : Form → ℕ → List ℕ → ℕ → State → (List ℕ → State → Answer) → (State → Answer)
          → Answer
      match Any a bound d s go fails = go (bound ++ a ∷ []) s
      match (Is k) a bound d s go fails =
          and_then (force (without_bodies q) onward a (suc d) s) (λ v s. elim (is_int k v) [
            | true ↦ go bound s
            | false ↦ fails s
          ])
      match (Has k fields) a bound d s go fails =
          and_then (force (without_bodies q) onward a (suc d) s) (λ v s. elim (is_con k v) [
            | true ↦ matches fields (fields_of v) bound d s go fails
            | false ↦ fails s
          ])

      -- from left to right, and from outside in
      pub matches : Forms → List ℕ → List ℕ → ℕ → State → (List ℕ → State → Answer)
          → (State → Answer) → Answer
      matches NoForms as' bound d s go fails = go bound s
      matches (AndForm p ps) [] bound d s go fails = fails s
      matches (AndForm p ps) (a ∷ as') bound d s go fails =
          match p a bound d s (λ bound s. matches ps as' bound d s go fails) fails

    -- the first of these equations that matches gives the body
    abbrev pub tries : List Row → List ℕ → ℕ → State → Answer
    tries [] as' d s = NoAlternative s
    tries (g ∷ gs) as' d s =
        matches g.pats as' [] d s (λ xs s.
        eval (without_bodies q) onward g.body (parameters xs) d s)
        (λ s. tries gs as' d s)

  abbrev pub enter : DelayedEvaluator → ℕ → List ℕ → ℕ → State → Answer
  enter onward f xs d s = tries onward (rows_of (slice_get q.funs f)) xs d s

  abbrev pub within : ℕ → DelayedEvaluator
  within n =
      forcing.within (params (without_bodies q)) NoAlternative (nil (without_bodies q))
      (cons (without_bodies q)) enter n

  abbrev pub print : ℕ → ℕ → List ℕ → State → forcing.PrintedRun
  print n =
      forcing.print (params (without_bodies q)) NoAlternative (nil (without_bodies q))
      (cons (without_bodies q)) enter n

  -- what the equations put out on the input i within n units
  abbrev pub printed : List ℕ → ℕ → forcing.PrintedRun
  printed i n =
      forcing.printed (params (without_bodies q)) NoAlternative
      (nil (without_bodies q)) (cons (without_bodies q)) enter
      (globals (without_bodies q) (without_bodies q).funs 0) q.main
      (global (without_bodies q) q.main) i n

-- the same as a meaning tells it
abbrev pub equations_meaning : Equations → Meaning
equations_meaning q i n =
    let r : forcing.PrintedRun = printed q i n in
    record { out = r.out; end = meaning_end r.end; cells = r.cells; depth = r.depth; used = r.used }
