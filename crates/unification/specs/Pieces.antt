-- Trees in a row.
use Rattle.std.specs.Prelude.{ℕ, suc, List, [], ◌∷◌, ◌++◌, length, Some, None}
use Rattle.unification.specs.declared.classes.Classes.{Classes}
use Rattle.unification.specs.declared.pieces.Piece.{Piece}
use Rattle.unification.specs.declared.pieces.Piece.TheVariants as piece
use Rattle.unification.specs.declared.term.Term.{Term}
use Rattle.unification.specs.Shown.{kept_of}
use Rattle.unification.specs.Terms.{symbol_of, arguments_of}
use Rattle.unification.specs.Trees.{Tree, Trees, Open, Made, NoTrees, AndTree}

abbrev pub tree_count : Trees → ℕ
tree_count NoTrees = 0
tree_count (AndTree t ts) = suc (tree_count ts)

abbrev mutual
  -- A symbol stands before its arguments, of which the last one comes first. So arguments are whole
  -- before their symbol is met, where the row is read from its end.
  pub pieces : Tree → List Piece
  pieces (Open n) = piece.Open n ∷ []
  pieces (Made s ts) = piece.Made s (tree_count ts) ∷ pieces_all ts

  pub pieces_all : Trees → List Piece
  pieces_all NoTrees = []
  pieces_all (AndTree t ts) = pieces_all ts ++ pieces t

-- what the tree of a class begins with
abbrev pub head_piece : List Term → Classes → ℕ → Piece
head_piece terms c r =
    elim (symbol_of terms (kept_of c r)) [
      | Some s ↦ piece.Made s (length (arguments_of terms (kept_of c r)))
      | None ↦ piece.Open r
    ]
