-- What the lexer of Core gives.
use Rattle.std.specs.Prelude.{ℕ, List}
use Rattle.core_reader.specs.declared.dialect.Dialect.TheVariants.{Core}
use Rattle.core_reader.specs.declared.token.Lexeme.{Lexeme}
use Rattle.core_reader.specs.TokensOf.{Piece}
use Rattle.core_reader.specs.LexedOf as any
pub use Rattle.core_reader.specs.LexedOf.{texts_of, AtEnd, AtBad, AtLarge}

abbrev pub StopsAt : ℕ → List ℕ → Lexeme → Type 0
StopsAt = any.StopsAt Core

abbrev pub AreInRange : List Piece → Type 0
AreInRange = any.AreInRange Core

abbrev pub IsLexed : List ℕ → List Lexeme → List (List ℕ) → Type 0
IsLexed = any.IsLexed Core
