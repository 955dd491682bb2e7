-- The names of a text of a dialect, each once, in the order of first appearance.
use Rattle.std.specs.Prelude.{ℕ, Bool, true, false, List, [], ◌∷◌, ◌++◌, fold, Option, Some, None, is_none, if◌then◌else◌}
use Rattle.std.specs.Str.{bytes_eq}
use Rattle.std.specs.List.{list_any}
use Rattle.core_reader.specs.declared.dialect.Dialect.{Dialect}
use Rattle.core_reader.specs.declared.look.TokenKind.{TokenKind}
use Rattle.core_reader.specs.declared.look.TokenKind.TheVariants.{Lower, Upper, Digits, Sign}
use Rattle.core_reader.specs.TokensOf.{Piece, kind_of}
use Rattle.core_reader.specs.WordsOf.{keyword_of}

-- a name or a constructor, which gets a number
abbrev pub is_numbered_by : Dialect → List ℕ → Option TokenKind → Bool
is_numbered_by d w None = false
is_numbered_by d w (Some Lower) = is_none (keyword_of d w)
is_numbered_by d w (Some Upper) = true
is_numbered_by d w (Some Digits) = false
is_numbered_by d w (Some (Sign s)) = false

abbrev pub is_numbered : Dialect → Piece → Bool
is_numbered d piece = is_numbered_by d piece.bytes (kind_of d piece.bytes)

-- a new name is put at the end
abbrev pub with_name : List (List ℕ) → List ℕ → List (List ℕ)
with_name names w = if list_any (bytes_eq w) names then names else names ++ w ∷ []

abbrev pub with_piece : Dialect → List (List ℕ) → Piece → List (List ℕ)
with_piece d names piece = if is_numbered d piece then with_name names piece.bytes else names

-- each name of the tokens once, in the order of first appearance
abbrev pub names_of : Dialect → List Piece → List (List ℕ)
names_of d pieces = fold (with_piece d) [] pieces
