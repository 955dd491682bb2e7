-- Core as a language: the moves of an expression in normal form.
use Rattle.std.specs.Prelude.{ℕ, true, false, List, [], ◌∷◌, map, Option, Some, None, slice_get}
use Rattle.arity_check.specs.Program.{Program, Function, Term, App, Let, Case, Branches, NoMore, OnCon, OnInt, OnAny}
use Rattle.core_meaning.specs.Heap.{Value, Known, Env, with_local, with_locals}
use Rattle.core_meaning.specs.Evaluation.{nil, cons, params, global, globals, binding, with_group, parameters, is_con, fields_of, is_int}
use Rattle.natural_semantics.specs.any.Moves.{Moves, Ends, Adds, Then, Refuses, Absent, ProgramOf}

module _ (p : Program) where
  abbrev mutual
    pub moves_of : Term → Env → Moves ℕ
    moves_of (App f) env = Ends (binding p env f)
    moves_of (Let group body) env =
        Adds (λ k. map (λ b. binding p (with_group p env group k) b.flat) group)
        (λ k. moves_of body (with_group p env group k))
    moves_of (Case tested branches) env = Then (moves_of tested env) (λ v. choice_of branches v env)

    -- the first branch that accepts a value
    pub choice_of : Branches → Value → Env → Moves ℕ
    choice_of NoMore v env = Refuses
    choice_of (OnCon c fields body rest) v env =
        elim (is_con c v) [
          | true ↦ moves_of body (with_locals env fields (fields_of v))
          | false ↦ choice_of rest v env
        ]
    choice_of (OnInt k body rest) v env =
        elim (is_int k v) [ true ↦ moves_of body env | false ↦ choice_of rest v env ]
    choice_of (OnAny None body rest) v env = moves_of body env
    choice_of (OnAny (Some x) body rest) v env =
        Adds (λ k. Known v ∷ []) (λ k. moves_of body (with_local env x k))

  abbrev pub body_of : Option Function → List ℕ → Moves ℕ
  body_of None xs = Absent
  body_of (Some g) xs = moves_of g.body (parameters xs)

  -- In a valid program no lookup fails, so nothing is said of one that does.
  abbrev pub core_program : ProgramOf ℕ
  core_program = record {
    absent_is_refused = false;
    arity = params p;
    nil = nil p;
    cons = cons p;
    body = λ f xs. body_of (slice_get p.funs f) xs;
    shared = globals p p.funs 0;
    main = p.main;
    name = global p p.main;
  }
