-- A text of pattern equations as a tree that has no places in memory. A name is its number in the
-- table of names, and `at` is the place of its token.
use Rattle.std.specs.Prelude.{ℕ, ℤ, List}
use Rattle.core_reader.specs.declared.syntax.Binder.{Binder}
use Rattle.core_reader.specs.Tree.{Expr, Data}

mutual
  -- a pattern: any value under a name, an integer, or a constructor with patterns for its fields
  pub data Pat : Type 0 where
    Name : (binder : Binder) → Pat
    Int : (number : ℤ) (at : ℕ) → Pat
    Con : (con : Binder) (fields : Pats) → Pat

  pub data Pats : Type 0 where
    NoPats : Pats
    AndPat : (pat : Pat) (rest : Pats) → Pats

pub record Equation : Type 0 where
  pub name : ℕ
  pub at : ℕ
  pub pats : Pats
  pub body : Expr

pub record Source : Type 0 where
  pub names : List (List ℕ)
  pub constructors : List Data
  pub equations : List Equation
