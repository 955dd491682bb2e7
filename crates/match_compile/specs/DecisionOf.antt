-- The decisions that the code keeps, and what becomes of an equation that comes to one.
use Rattle.std.specs.Prelude.{ℕ, ◌==◌, Bool, true, List, [], ◌∷◌, map, reverse, Option, Some, None}
use Rattle.core_reader.specs.Tree.{Expr, expr}
use Rattle.match_compile.specs.declared.decide.Clause.{Clause}
use Rattle.match_compile.specs.declared.decide.Decision as code
use Rattle.match_compile.specs.declared.decide.InsertionOutcome.{InsertionOutcome}
use Rattle.match_compile.specs.Source.{Pats, Equation}
use Rattle.match_compile.specs.SourceOf.{pat_of, pats_of}
use Rattle.match_compile.specs.Trees.{Tree, max_chained_cases, insert}
use Rattle.match_compile.specs.Decisions.{Decision, row_of, grown}
use Rattle.match_compile.specs.TreeOf.{tree_of}

abbrev pub clause_of : Clause → Equation
clause_of c = record {
  name = c.name.0;
  at = c.at;
  pats = pats_of (map pat_of c.pats.now);
  body = expr c.body;
}

-- the last one is the first
abbrev pub clauses_of : List Clause → List Equation
clauses_of cs = map clause_of (reverse cs)

abbrev pub functions_of : List (List Clause) → List (List Equation)
functions_of fs = map clauses_of (reverse fs)

abbrev pub decision_of : code.Decision → Decision
decision_of d = record {
  name = d.name.0;
  at = d.at;
  number = d.number;
  params = d.params;
  tree = tree_of d.tree;
  free = d.free;
}

abbrev pub decisions_of : List code.Decision → List Decision
decisions_of ds = map decision_of ds

abbrev pub left_clause : Option Clause → Option Equation
left_clause None = None
left_clause (Some c) = Some (clause_of c)

-- the equation of a body that is left
abbrev pub with_body : (name at : ℕ) → Pats → Option Expr → Option Equation
with_body name at pats None = None
with_body name at pats (Some b) = Some (record { name = name; at = at; pats = pats; body = b })

abbrev pub insertion_outcome : InsertionOutcome → Decision × Option Equation
insertion_outcome c = (decision_of c.decision, left_clause c.left)

abbrev pub taken_by : Decision → Equation → Option (Tree × ℕ) → Decision × Option Equation
taken_by d e None = (d, Some e)
taken_by d e (Some t) = (grown d t, None)

-- a tree takes an equation, or leaves it
abbrev pub decision_or_left : Decision → Equation → Decision × Option Equation
decision_or_left d e = taken_by d e (insert max_chained_cases d.tree d.free (row_of e))

-- whether an equation of this name goes before these
abbrev pub goes_before : List Equation → ℕ → Bool
goes_before [] x = true
goes_before (f ∷ fs) x = x == f.name
