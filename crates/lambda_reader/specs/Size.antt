-- The size of a program with lambdas: the number of its name, constructor and integer tokens.
use Rattle.std.specs.Prelude.{ℕ, ◌+◌, ◌*◌, length, sum_by}
use Rattle.core_reader.specs.Size.{pattern_size}
use Rattle.lambda_reader.specs.Tree.{Term, Terms, Name, Con, Int, Bracket, Lambda, NoTerms, AndTerm, Group, NoBinds, AndValue, AndFunction, Expr, App, Let, Case, Alts, NoAlts, AndAlt, Function, Program}

abbrev mutual
  pub term_size : Term → ℕ
  term_size (Name x at) = 1
  term_size (Con c at) = 1
  term_size (Int k at) = 1
  term_size (Bracket head args at) = term_size head + terms_size args
  term_size (Lambda params body at) = length params + expr_size body

  pub terms_size : Terms → ℕ
  terms_size NoTerms = 0
  terms_size (AndTerm term rest) = term_size term + terms_size rest

  pub group_size : Group → ℕ
  group_size NoBinds = 0
  group_size (AndValue b head args rest) =
      1 + term_size head + terms_size args + group_size rest
  group_size (AndFunction b params body rest) =
      1 + length params + expr_size body + group_size rest

  pub expr_size : Expr → ℕ
  expr_size (App head args) = term_size head + terms_size args
  expr_size (Let group body) = group_size group + expr_size body
  expr_size (Case tested alts) = expr_size tested + alts_size alts

  pub alts_size : Alts → ℕ
  alts_size NoAlts = 0
  alts_size (AndAlt pat body rest) = pattern_size pat + expr_size body + alts_size rest

abbrev pub function_size : Function → ℕ
function_size f = 1 + length f.params + expr_size f.body

abbrev pub program_size : Program → ℕ
program_size p = 2 * length p.constructors + sum_by function_size p.functions
