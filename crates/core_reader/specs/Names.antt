-- The names of a text of Core.
use Rattle.std.specs.Prelude.{ℕ, Bool, List, Option}
use Rattle.core_reader.specs.declared.dialect.Dialect.TheVariants.{Core}
use Rattle.core_reader.specs.declared.look.TokenKind.{TokenKind}
use Rattle.core_reader.specs.TokensOf.{Piece}
use Rattle.core_reader.specs.NamesOf as any
pub use Rattle.core_reader.specs.NamesOf.{with_name}

abbrev pub is_numbered_by : List ℕ → Option TokenKind → Bool
is_numbered_by = any.is_numbered_by Core

abbrev pub is_numbered : Piece → Bool
is_numbered = any.is_numbered Core

abbrev pub with_piece : List (List ℕ) → Piece → List (List ℕ)
with_piece = any.with_piece Core

abbrev pub names_of : List Piece → List (List ℕ)
names_of = any.names_of Core
