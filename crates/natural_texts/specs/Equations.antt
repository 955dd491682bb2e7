-- Equations as a language: a function that is entered tries its equations from the top.
use Rattle.std.specs.Prelude.{ℕ, true, false, List, [], ◌∷◌, ◌++◌, slice_get}
use Rattle.core_meaning.specs.Evaluation.{is_con, fields_of, is_int, nil, cons, global, params, globals, parameters}
use Rattle.match_compile.specs.Form.{Form, Any, Is, Has, Forms, NoForms, AndForm, Row, Equations}
use Rattle.match_compile.specs.ByEquations.{without_bodies, rows_of}
use Rattle.natural_semantics.specs.any.Moves.{Moves, Demands, Refuses, ProgramOf}
use Rattle.natural_semantics.specs.CoreMoves.{moves_of}

abbrev mutual
  -- a name is matched with a pattern, and goes on with the names that the pattern binds, or fails
  pub match_of : Form → ℕ → List ℕ → (List ℕ → Moves ℕ) → Moves ℕ → Moves ℕ
  match_of Any a bound go fails = go (bound ++ a ∷ [])
  match_of (Is k) a bound go fails =
      Demands a (λ v. elim (is_int k v) [ true ↦ go bound | false ↦ fails ])
  match_of (Has k fields) a bound go fails =
      Demands a (λ v. elim (is_con k v) [
        | true ↦ matches_of fields (fields_of v) bound go fails
        | false ↦ fails
      ])

  -- from left to right, and from outside in
  pub matches_of : Forms → List ℕ → List ℕ → (List ℕ → Moves ℕ) → Moves ℕ → Moves ℕ
  matches_of NoForms as' bound go fails = go bound
  matches_of (AndForm p ps) [] bound go fails = fails
  matches_of (AndForm p ps) (a ∷ as') bound go fails =
      match_of p a bound (λ bound. matches_of ps as' bound go fails) fails

module _ (q : Equations) where
  -- the first of these equations that matches gives the body
  abbrev pub tries_of : List Row → List ℕ → Moves ℕ
  tries_of [] as' = Refuses
  tries_of (g ∷ gs) as' =
      matches_of g.pats as' [] (λ xs. moves_of (without_bodies q) g.body (parameters xs))
      (tries_of gs as')

  abbrev pub equation_program : ProgramOf ℕ
  equation_program = record {
    absent_is_refused = true;
    arity = params (without_bodies q);
    nil = nil (without_bodies q);
    cons = cons (without_bodies q);
    body = λ f xs. tries_of (rows_of (slice_get q.funs f)) xs;
    shared = globals (without_bodies q) (without_bodies q).funs 0;
    main = q.main;
    name = global (without_bodies q) q.main;
  }
