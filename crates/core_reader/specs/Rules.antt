-- The five rules that a text of Core has to keep, and which broken rule is named.
use Rattle.std.specs.Prelude.{ℕ, List}
use Rattle.core_reader.specs.declared.dialect.Dialect.TheVariants.{Core}
use Rattle.core_reader.specs.declared.refusal.ReadRefusal.{ReadRefusal}
use Rattle.core_reader.specs.TokensOf.{Piece}
use Rattle.core_reader.specs.Programs.{IsProgram}
use Rattle.core_reader.specs.RulesOf as any
pub use Rattle.core_reader.specs.RulesOf.{AtToken, AtEnd, BadByte, Syntax, NumberRange, TooDeep, TextTooLong, IsNoLaterFault}

abbrev pub BeginsWith : List ℕ → List Piece → Piece → ℕ → Type 0
BeginsWith = any.BeginsWith Core

abbrev pub IsBadByte : List ℕ → ℕ → Type 0
IsBadByte = any.IsBadByte Core

abbrev pub IsSyntaxFault : List ℕ → ℕ → Type 0
IsSyntaxFault = any.IsSyntaxFault Core IsProgram

abbrev pub IsOutOfRange : List ℕ → ℕ → Type 0
IsOutOfRange = any.IsOutOfRange Core

abbrev pub IsTooDeep : List ℕ → ℕ → Type 0
IsTooDeep = any.IsTooDeep Core IsProgram

abbrev pub IsUnread : List ℕ → (k at : ℕ) → Type 0
IsUnread = any.IsUnread Core IsProgram

-- Rule k is broken at this place, and no rule is broken before it.
abbrev pub IsFirstUnread : List ℕ → (k at : ℕ) → Type 0
IsFirstUnread = any.IsFirstUnread Core IsProgram

-- the rule and the place that a refusal names
abbrev pub IsCause : List ℕ → ReadRefusal → Type 0
IsCause = any.IsCause Core IsProgram

-- No rule is broken.
abbrev pub IsUnbroken : List ℕ → Type 0
IsUnbroken = any.IsUnbroken Core IsProgram
