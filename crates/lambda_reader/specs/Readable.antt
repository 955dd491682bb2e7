-- What holds of each program with lambdas that was read: its names have texts of their kinds, and
-- nothing is empty or too large.
use Rattle.std.specs.Prelude.{ℕ, ◌≤◌, List, All}
use Rattle.core_reader.specs.Words.{IsInRange}
use Rattle.core_reader.specs.Different.{AreDistinct}
use Rattle.core_reader.specs.Readable.{IsConstructor, IsTextAt, IsNamed, IsBound, ReadablePattern, ReadableData}
use Rattle.lambda_reader.specs.Tree.{Term, Terms, NoTerms, AndTerm, Group, NoBinds, AndValue, AndFunction, Expr, App, Let, Case, Alts, NoAlts, AndAlt, Function, Program}
use Rattle.lambda_reader.specs.Tree as tree
use Rattle.lambda_reader.specs.Grammar.{HasParameter, IsGroup, IsNonemptyAlts}
use Rattle.lambda_reader.specs.Size.{program_size}
use Rattle.limits.specs.Limits.{most_bytes}

-- no list of parameters, no let group and no list of alternatives is empty
abbrev mutual
  pub ReadableTerm : List (List ℕ) → Term → Type 0
  ReadableTerm names (tree.Name n at) = IsNamed names n
  ReadableTerm names (tree.Con n at) = IsTextAt names IsConstructor n
  ReadableTerm names (tree.Int k at) = IsInRange k
  ReadableTerm names (tree.Bracket head args at) =
      ReadableTerm names head × ReadableTerms names args
  ReadableTerm names (tree.Lambda params body at) =
      HasParameter params × All (IsBound names) params × ReadableExpr names body

  pub ReadableTerms : List (List ℕ) → Terms → Type 0
  ReadableTerms names NoTerms = Unit {0}
  ReadableTerms names (AndTerm a xs) = ReadableTerm names a × ReadableTerms names xs

  pub ReadableGroup : List (List ℕ) → Group → Type 0
  ReadableGroup names NoBinds = Unit {0}
  ReadableGroup names (AndValue b head args rest) =
      IsBound names b × ReadableTerm names head × ReadableTerms names args
      × ReadableGroup names rest
  ReadableGroup names (AndFunction b params body rest) =
      IsBound names b × HasParameter params × All (IsBound names) params × ReadableExpr names body
      × ReadableGroup names rest

  pub ReadableExpr : List (List ℕ) → Expr → Type 0
  ReadableExpr names (App head args) = ReadableTerm names head × ReadableTerms names args
  ReadableExpr names (Let group e) =
      IsGroup group × ReadableGroup names group × ReadableExpr names e
  ReadableExpr names (Case e alts) =
      IsNonemptyAlts alts × ReadableExpr names e × ReadableAlts names alts

  pub ReadableAlts : List (List ℕ) → Alts → Type 0
  ReadableAlts names NoAlts = Unit {0}
  ReadableAlts names (AndAlt p e xs) =
      ReadablePattern names p × ReadableExpr names e × ReadableAlts names xs

abbrev pub ReadableFunction : List (List ℕ) → Function → Type 0
ReadableFunction names f =
    IsNamed names f.name × All (IsBound names) f.params × ReadableExpr names f.body

pub record IsReadable (p : Program) : Type 0 where
  pub different : AreDistinct p.names
  pub constructors : All (ReadableData p.names) p.constructors
  pub functions : All (ReadableFunction p.names) p.functions
  pub size : program_size p ≤ most_bytes
