-- How many `(`, `let` and `case` are open at one place: a `(` to its `)`, a `case` to its `}`, a
-- `let` to the end of its body.
use Rattle.std.specs.Prelude.{ℕ, suc, max, List, [], ◌∷◌}
use Rattle.core_reader.specs.Tree.{Term, Terms, Name, Con, Int, Bracket, NoTerms, AndTerm, Application, Bind, Expr, App, Let, Case, Alts, NoAlts, AndAlt, Function, Program}

abbrev mutual
  pub term_depth : Term → ℕ
  term_depth (Name x at) = 0
  term_depth (Con c at) = 0
  term_depth (Int k at) = 0
  term_depth (Bracket head args at) = suc (max (term_depth head) (terms_depth args))

  pub terms_depth : Terms → ℕ
  terms_depth NoTerms = 0
  terms_depth (AndTerm a xs) = max (term_depth a) (terms_depth xs)

abbrev pub app_depth : Application → ℕ
app_depth app = max (term_depth app.head) (terms_depth app.args)

abbrev pub group_depth : List Bind → ℕ
group_depth [] = 0
group_depth (b ∷ bs) = max (app_depth b.app) (group_depth bs)

abbrev mutual
  pub expr_depth : Expr → ℕ
  expr_depth (App app) = app_depth app
  expr_depth (Let group e) = suc (max (group_depth group) (expr_depth e))
  expr_depth (Case e alts) = suc (max (expr_depth e) (alts_depth alts))

  pub alts_depth : Alts → ℕ
  alts_depth NoAlts = 0
  alts_depth (AndAlt p e xs) = max (expr_depth e) (alts_depth xs)

abbrev pub functions_depth : List Function → ℕ
functions_depth [] = 0
functions_depth (f ∷ fs) = max (expr_depth f.body) (functions_depth fs)

-- the most of them at any place of the program
abbrev pub program_depth : Program → ℕ
program_depth p = functions_depth p.functions
