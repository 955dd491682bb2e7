-- The names of a text that begin with `lift'`.
use Rattle.std.specs.Prelude.{◌≡◌, ℕ, ◌≤◌, List, ◌++◌, codes, Option, Some, None, slice_get}
use Rattle.core_reader.specs.declared.dialect.Dialect.TheVariants.{Lambdas}
use Rattle.core_reader.specs.declared.look.TokenKind.TheVariants.{Lower}
use Rattle.core_reader.specs.TokensOf.{Piece, IsTokens, kind_of}

abbrev pub IsReserved : List ℕ → Type 0
IsReserved bytes =
    (rest : List ℕ) × (kind_of Lambdas bytes ≡ Some Lower) × (bytes ≡ codes "lift'" ++ rest)

-- such a name stands at this place of the text
pub data HasReserved (text : List ℕ) : (at : ℕ) → Type 0 where
  Stands : {pieces : List Piece} {piece : Piece} (i : ℕ) → IsTokens Lambdas text pieces
      → slice_get pieces i ≡ Some piece → IsReserved piece.bytes → HasReserved text piece.at

-- the place of the first of them, or that there is none
abbrev pub IsFirstReserved : List ℕ → Option ℕ → Type 0
IsFirstReserved text None = (at : ℕ) → HasReserved text at → ⊥
IsFirstReserved text (Some first) =
    HasReserved text first × ((at : ℕ) → HasReserved text at → first ≤ at)
