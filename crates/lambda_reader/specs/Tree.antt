-- Core syntax with lambdas and local functions, as a tree that has no places in memory. A lambda's
-- place is that of its `\`.
use Rattle.std.specs.Prelude.{ℕ, ℤ, List}
use Rattle.core_reader.specs.declared.syntax.Binder.{Binder}
use Rattle.core_reader.specs.declared.syntax.Pattern.{Pattern}
use Rattle.core_reader.specs.Tree.{Data}

mutual
  -- a head or an argument
  pub data Term : Type 0 where
    Name : (name at : ℕ) → Term
    Con : (name at : ℕ) → Term
    Int : (number : ℤ) (at : ℕ) → Term
    Bracket : (head : Term) (args : Terms) (at : ℕ) → Term
    Lambda : (params : List Binder) (body : Expr) (at : ℕ) → Term

  pub data Terms : Type 0 where
    NoTerms : Terms
    AndTerm : (term : Term) (rest : Terms) → Terms

  -- the members of a let group: a name with an application, or a local function
  pub data Group : Type 0 where
    NoBinds : Group
    AndValue : (binder : Binder) (head : Term) (args : Terms) (rest : Group) → Group
    AndFunction : (binder : Binder) (params : List Binder) (body : Expr) (rest : Group) → Group

  pub data Expr : Type 0 where
    App : (head : Term) (args : Terms) → Expr
    Let : (group : Group) (body : Expr) → Expr
    Case : (tested : Expr) (alts : Alts) → Expr

  pub data Alts : Type 0 where
    NoAlts : Alts
    AndAlt : (pattern : Pattern) (body : Expr) (rest : Alts) → Alts

pub record Function : Type 0 where
  pub name : ℕ
  pub at : ℕ
  pub params : List Binder
  pub body : Expr

pub record Program : Type 0 where
  pub names : List (List ℕ)
  pub constructors : List Data
  pub functions : List Function
