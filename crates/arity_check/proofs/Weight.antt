-- A measure of the recursion of a builder.
use Rattle.std.specs.Prelude.{ℕ, ◌+◌}
use Rattle.core_reader.specs.Tree.{Term, Terms, Name, Con, Int, Bracket, NoTerms, AndTerm, Expr, App, Let, Case, Alts, NoAlts, AndAlt}

abbrev mutual
  pub term_weight : Term → ℕ
  term_weight (Name x at) = 1
  term_weight (Con c at) = 1
  term_weight (Int k at) = 1
  term_weight (Bracket head args at) = term_weight head + terms_weight args + 5

  pub terms_weight : Terms → ℕ
  terms_weight NoTerms = 0
  terms_weight (AndTerm a rest) = term_weight a + terms_weight rest + 5

abbrev mutual
  pub expr_weight : Expr → ℕ
  expr_weight (App app) = 1
  expr_weight (Let group body) = expr_weight body + 1
  expr_weight (Case tested alts) = expr_weight tested + alts_weight alts + 1

  pub alts_weight : Alts → ℕ
  alts_weight NoAlts = 0
  alts_weight (AndAlt pat body rest) = expr_weight body + alts_weight rest + 2
