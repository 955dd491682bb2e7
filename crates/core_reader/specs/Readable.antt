-- What holds of each program that was read: its names have texts of their kinds, and nothing is
-- empty or too large.
use Rattle.std.specs.Prelude.{◌≡◌, ℕ, ◌<◌, ◌≤◌, ◌^◌, List, Some, None, All, slice_get}
use Rattle.core_reader.specs.declared.syntax.Binder.{Binder}
use Rattle.core_reader.specs.declared.syntax.Pattern.{Pattern}
use Rattle.core_reader.specs.declared.syntax.Pattern.TheVariants as pattern
use Rattle.core_reader.specs.declared.look.TokenKind.TheVariants.{Lower, Upper}
use Rattle.core_reader.specs.Tree.{Term, Terms, NoTerms, AndTerm, Application, Bind, Expr, App, Let, Case, Alts, NoAlts, AndAlt, Data, Function, Program}
use Rattle.core_reader.specs.Tree as tree
use Rattle.core_reader.specs.Tokens.{kind_of}
use Rattle.core_reader.specs.Words.{keyword_of, IsInRange}
use Rattle.core_reader.specs.Grammar.{IsGroup, IsNonemptyAlts}
use Rattle.core_reader.specs.Size.{program_size}
pub use Rattle.core_reader.specs.Different.{AreDistinct}

-- the bytes of a name, and of a constructor
abbrev pub IsName : List ℕ → Type 0
IsName w = (kind_of w ≡ Some Lower) × (keyword_of w ≡ None)

abbrev pub IsConstructor : List ℕ → Type 0
IsConstructor w = kind_of w ≡ Some Upper

-- The number is a place among the names, and the text there is of this kind.
abbrev pub IsTextAt : List (List ℕ) → (List ℕ → Type 0) → ℕ → Type 0
IsTextAt names Kind n = (w : List ℕ) × (slice_get names n ≡ Some w) × Kind w

abbrev pub IsNamed : List (List ℕ) → ℕ → Type 0
IsNamed names n = IsTextAt names IsName n

abbrev pub IsBound : List (List ℕ) → Binder → Type 0
IsBound names b = IsNamed names b.name.0

abbrev mutual
  pub ReadableTerm : List (List ℕ) → Term → Type 0
  ReadableTerm names (tree.Name n at) = IsNamed names n
  ReadableTerm names (tree.Con n at) = IsTextAt names IsConstructor n
  ReadableTerm names (tree.Int k at) = IsInRange k
  ReadableTerm names (tree.Bracket head args at) =
      ReadableTerm names head × ReadableTerms names args

  pub ReadableTerms : List (List ℕ) → Terms → Type 0
  ReadableTerms names NoTerms = Unit {0}
  ReadableTerms names (AndTerm a xs) = ReadableTerm names a × ReadableTerms names xs

abbrev pub ReadableApp : List (List ℕ) → Application → Type 0
ReadableApp names app = ReadableTerm names app.head × ReadableTerms names app.args

abbrev pub ReadableBind : List (List ℕ) → Bind → Type 0
ReadableBind names b = IsBound names b.binder × ReadableApp names b.app

abbrev pub ReadablePattern : List (List ℕ) → Pattern → Type 0
ReadablePattern names (pattern.Con c fields) =
    IsTextAt names IsConstructor c.name.0 × All (IsBound names) fields
ReadablePattern names (pattern.Int k at) = IsInRange k
ReadablePattern names (pattern.Default x) = IsBound names x

-- no let group and no list of alternatives is empty
abbrev mutual
  pub ReadableExpr : List (List ℕ) → Expr → Type 0
  ReadableExpr names (App app) = ReadableApp names app
  ReadableExpr names (Let group e) =
      IsGroup group × All (ReadableBind names) group × ReadableExpr names e
  ReadableExpr names (Case e alts) =
      IsNonemptyAlts alts × ReadableExpr names e × ReadableAlts names alts

  pub ReadableAlts : List (List ℕ) → Alts → Type 0
  ReadableAlts names NoAlts = Unit {0}
  ReadableAlts names (AndAlt p e xs) =
      ReadablePattern names p × ReadableExpr names e × ReadableAlts names xs

abbrev pub ReadableData : List (List ℕ) → Data → Type 0
ReadableData names d = IsTextAt names IsConstructor d.name × (d.fields ≤ 2147483647)

abbrev pub ReadableFunction : List (List ℕ) → Function → Type 0
ReadableFunction names f =
    IsNamed names f.name × All (IsBound names) f.params × ReadableExpr names f.body

pub record IsReadable (p : Program) : Type 0 where
  pub different : AreDistinct p.names
  pub constructors : All (ReadableData p.names) p.constructors
  pub functions : All (ReadableFunction p.names) p.functions
  pub size : program_size p < 2 ^ 64
