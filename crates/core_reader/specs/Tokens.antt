-- The tokens of a text of Core.
use Rattle.std.specs.Prelude.{ℕ, List, Option}
use Rattle.core_reader.specs.declared.dialect.Dialect.TheVariants.{Core}
use Rattle.core_reader.specs.declared.look.TokenKind.{TokenKind}
use Rattle.core_reader.specs.TokensOf as any
pub use Rattle.core_reader.specs.TokensOf.{every, arrow, after_minus, IsSeparator, Piece, Stops, Passes, Takes}

abbrev pub sign : ℕ → Option TokenKind
sign = any.sign Core

abbrev pub of_one : ℕ → List ℕ → Option TokenKind
of_one = any.of_one Core

abbrev pub kind_of : List ℕ → Option TokenKind
kind_of = any.kind_of Core

abbrev pub Longest : ℕ → List ℕ → TokenKind → Type 0
Longest = any.Longest Core

abbrev pub Reads : (at : ℕ) → List ℕ → List Piece → (end : ℕ) → List ℕ → Type 0
Reads = any.Reads Core

abbrev pub IsTokens : List ℕ → List Piece → Type 0
IsTokens = any.IsTokens Core

abbrev pub NothingBegins : List ℕ → Type 0
NothingBegins = any.NothingBegins Core
