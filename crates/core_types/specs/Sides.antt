-- The types of the two sides of a constraint, as a solution leaves them.
use Rattle.std.specs.Prelude.{◌≡◌, ℕ, zero, ◌-◌, ◌≤◌, List, [], ◌∷◌, ◌++◌, length, take, drop}
use Rattle.unification.specs.declared.pieces.Piece.{Piece}
use Rattle.unification.specs.declared.pieces.Piece.TheVariants as piece
use Rattle.unification.specs.declared.term.Symbol.TheVariants as symbol
use Rattle.unification.specs.Trees.{Tree, Trees, Open, Made, NoTrees, AndTree}
use Rattle.unification.specs.Pieces.{tree_count}
use Rattle.core_types.specs.declared.sides.Ty.{Ty-F, fold-Ty}
use Rattle.core_types.specs.declared.sides.Ty as code
use Rattle.core_types.specs.declared.sides.Ty.TheOpen as layer
use Rattle.core_types.specs.Source.{Source}
use Rattle.core_types.specs.Typing.{TypeVariableKey, AtBinder, AtResult, AtBracket, AtScrutinee, AtUse, Typed, Types, Int, Rigid, Named, Arrow, NoTypeds, AndTyped, Constraint, Substitution, under, constraints, IsFirstUnsolved, IsMostGeneral}
use Rattle.core_types.specs.Typing as typing
use Rattle.core_types.specs.Nodes.{TakesArguments}

abbrev pub types_from : List Typed → Types
types_from [] = NoTypeds
types_from (t ∷ ts) = AndTyped t (types_from ts)

-- a variable of a solution, by its number
abbrev pub variable : ℕ → Typed
variable n = typing.Open (AtUse n zero)

-- ---- the types of the code

abbrev pub type_layer : Ty-F Typed → Typed
type_layer layer.Int = Int
type_layer (layer.Open n) = variable n
type_layer (layer.Rigid f v) = Rigid f.0 v.0
type_layer (layer.Named name args) = Named name.0 (types_from args)
type_layer (layer.Arrow from to) = Arrow from.value to.value

abbrev pub type_of : code.Ty → Typed
type_of t = fold-Ty Typed type_layer t

-- The sides of a constraint, as the most general solution of others leaves them.
pub record AreSides (others : List Constraint) (c : Constraint) (left right : Typed) : Type 0 where
  pub solution : Substitution
  pub general : IsMostGeneral solution others
  pub is_left : left ≡ under solution c.left
  pub is_right : right ≡ under solution c.right

-- The first constraint of a program that has no solution with those before it is at this place, and
-- these are its sides, as the most general solution of those before it leaves them.
pub record IsMismatch (s : Source) (at : ℕ) (left right : Typed) : Type 0 where
  pub number : ℕ
  pub constraint : Constraint
  pub first : IsFirstUnsolved (constraints s) number constraint
  pub place : constraint.at ≡ at
  pub sides : AreSides (take number (constraints s)) constraint left right

-- ---- trees as types

-- a variable of types, by the tree that is put for it where it is to stay as it is
abbrev pub mark_of : Tree → TypeVariableKey
mark_of (Open y) = AtBinder y
mark_of (Made symbol.Integer ts) = AtBinder 0
mark_of (Made symbol.Arrow ts) = AtBinder 0
mark_of (Made (symbol.Rigid at v) ts) = AtUse at v
mark_of (Made (symbol.Named at) NoTrees) = AtBinder at
mark_of (Made (symbol.Named at) (AndTree t NoTrees)) = AtResult at
mark_of (Made (symbol.Named at) (AndTree t (AndTree u NoTrees))) = AtBracket at
mark_of (Made (symbol.Named at) (AndTree t (AndTree u (AndTree v ts)))) = AtScrutinee at

abbrev mutual
  pub back : (ℕ → Typed) → Tree → Typed
  back f (Open y) = f y
  back f (Made symbol.Integer NoTrees) = Int
  back f (Made symbol.Integer (AndTree t ts)) = typing.Open (mark_of t)
  back f (Made (symbol.Rigid g v) ts) = Rigid g v
  back f (Made (symbol.Named c) ts) = Named c (back_all f ts)
  back f (Made symbol.Arrow NoTrees) = Int
  back f (Made symbol.Arrow (AndTree t NoTrees)) = Int
  back f (Made symbol.Arrow (AndTree t (AndTree u ts))) = Arrow (back f t) (back f u)

  pub back_all : (ℕ → Typed) → Trees → Types
  back_all f NoTrees = NoTypeds
  back_all f (AndTree t ts) = AndTyped (back f t) (back_all f ts)

abbrev pub typed_of : Tree → Typed
typed_of t = back variable t

-- each symbol in a tree has as many arguments as in types
abbrev mutual
  pub IsTypeTree : Tree → Type 0
  IsTypeTree (Open n) = Unit {0}
  IsTypeTree (Made s ts) = TakesArguments s (tree_count ts) × AreTypeTrees ts

  pub AreTypeTrees : Trees → Type 0
  AreTypeTrees NoTrees = Unit {0}
  AreTypeTrees (AndTree t ts) = IsTypeTree t × AreTypeTrees ts

-- ---- rows of pieces, read from their end

abbrev pub trees_from : List Tree → Trees
trees_from [] = NoTrees
trees_from (t ∷ ts) = AndTree t (trees_from ts)

-- one more piece: a variable, or a symbol whose arguments were read last
abbrev pub read_piece : Piece → List Tree → List Tree
read_piece (piece.Open n) ts = ts ++ Open n ∷ []
read_piece (piece.Made s n) ts =
    take (length ts - n) ts ++ Made s (trees_from (drop (length ts - n) ts)) ∷ []

-- so many trees were read that the arguments of the piece, as many as in types, are among them
abbrev pub HasReadArguments : Piece → ℕ → Type 0
HasReadArguments (piece.Open n) k = Unit {0}
HasReadArguments (piece.Made s n) k = (n ≤ k) × TakesArguments s n

abbrev pub read_back : List Piece → List Tree → List Tree
read_back [] ts = ts
read_back (p ∷ ps) ts = read_piece p (read_back ps ts)
