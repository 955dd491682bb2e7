-- Texts with lambdas as a language: the moves of an expression.
use Rattle.std.specs.Prelude.{ℕ, true, false, List, [], ◌∷◌, codes, Option, Some, None, slice_get}
use Rattle.core_reader.specs.declared.syntax.Pattern.TheVariants as pattern
use Rattle.lambda_reader.specs.Tree.{Expr, App, Let, Case, Alts, NoAlts, AndAlt, Function, Program}
use Rattle.arity_check.specs.Scope.{Scope, is_named, binds}
use Rattle.core_meaning.specs.Heap.{Known}
use Rattle.core_meaning.specs.Forcing.{is_con, is_int, fields_of}
use Rattle.lambda_lift.specs.Headers.{program_headers}
use Rattle.lambda_lift.specs.Meaning.{Fun, Top, Closure, Value, flat, arguments, members, bindings_of, in_group, with_all, number_of, arity, con_named, main, globals, global}
use Rattle.natural_semantics.specs.any.Moves.{Moves, Ends, Adds, Then, Refuses, Absent, ProgramOf}

module _ (c : Program) where
  abbrev mutual
    pub moves_of : Expr → Scope → Moves Fun
    moves_of (App head args) env =
        Adds (λ k. (flat c env k head (arguments c env args)).news)
        (λ k. Ends (flat c env k head (arguments c env args)).form)
    moves_of (Let group body) env =
        Adds (λ k. bindings_of c (members c (in_group c env k group) k group))
        (λ k. moves_of body (in_group c env k group))
    moves_of (Case tested alts) env = Then (moves_of tested env) (λ v. choice_of alts v env)

    -- the first alternative that accepts a value
    pub choice_of : Alts → Value → Scope → Moves Fun
    choice_of NoAlts v env = Refuses
    choice_of (AndAlt (pattern.Con k fields) body rest) v env =
        elim (is_con (number_of c k.name.0) v) [
          | true ↦ moves_of body (with_all c fields (fields_of v) env)
          | false ↦ choice_of rest v env
        ]
    choice_of (AndAlt (pattern.Int k at) body rest) v env =
        elim (is_int k v) [ true ↦ moves_of body env | false ↦ choice_of rest v env ]
    choice_of (AndAlt (pattern.Default x) body rest) v env =
        elim (is_named (program_headers c) (codes "_") x.name.0) [
          | true ↦ moves_of body env
          | false ↦ Adds (λ k. Known v ∷ [])
              (λ k. moves_of body (binds (program_headers c) x.name.0 k env))
        ]

  abbrev pub top_of : Option Function → List ℕ → Moves Fun
  top_of None xs = Absent
  top_of (Some f) xs = moves_of f.body (with_all c f.params xs [])

  abbrev pub body_of : Fun → List ℕ → Moves Fun
  body_of (Top f) xs = top_of (slice_get c.functions f) xs
  body_of (Closure params body env) xs = moves_of body (with_all c params xs env)

  abbrev pub lambda_program : ProgramOf Fun
  lambda_program = record {
    absent_is_refused = true;
    arity = arity c;
    nil = con_named c (codes "Nil");
    cons = con_named c (codes "Cons");
    body = body_of;
    shared = globals c c.functions 0;
    main = Top (main c);
    name = global c (main c);
  }
