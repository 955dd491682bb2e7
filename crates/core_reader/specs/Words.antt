-- What a token of Core says.
use Rattle.std.specs.Prelude.{ℕ, List, Option}
use Rattle.core_reader.specs.declared.dialect.Dialect.TheVariants.{Core}
use Rattle.core_reader.specs.declared.look.TokenKind.{TokenKind}
use Rattle.core_reader.specs.declared.token.Token.{Token}
use Rattle.core_reader.specs.declared.token.Lexeme.{Lexeme}
use Rattle.core_reader.specs.TokensOf.{Piece}
use Rattle.core_reader.specs.WordsOf as any
pub use Rattle.core_reader.specs.WordsOf.{digits_from, has_minus, written_number, IsInRange, sign_token, number_in, keyword_or_name}

abbrev pub keyword_of : List ℕ → Option Token
keyword_of = any.keyword_of Core

abbrev pub said_by : List (List ℕ) → List ℕ → Option TokenKind → Token
said_by = any.said_by Core

abbrev pub said : List (List ℕ) → Piece → Lexeme
said = any.said Core
