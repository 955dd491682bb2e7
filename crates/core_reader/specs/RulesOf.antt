-- The five rules that a text of any language has to keep, each by what breaks it and where, and
-- which broken rule is named. The language has the tokens of a dialect and a grammar.
use Rattle.std.specs.Prelude.{◌≡◌, ◌≢◌, ℕ, ◌<◌, ◌≤◌, ◌⊎◌, List, [], ◌∷◌, ◌++◌, length, Some}
use Rattle.core_reader.specs.declared.dialect.Dialect.{Dialect}
use Rattle.core_reader.specs.declared.look.TokenKind.TheVariants.{Digits}
use Rattle.core_reader.specs.declared.refusal.ReadRefusal.{ReadRefusal}
use Rattle.core_reader.specs.declared.refusal.ReadRefusal.TheVariants as refusal
use Rattle.core_reader.specs.TokensOf.{Piece, Reads, IsTokens, NothingBegins, kind_of}
use Rattle.core_reader.specs.Grammar.{unlimited_nesting, at_most_200}
use Rattle.core_reader.specs.WordsOf.{written_number, IsInRange}
use Rattle.core_reader.specs.ProgramsOf.{Language, Viable}
use Rattle.limits.specs.Limits.{most_bytes}

-- A text begins with these tokens, the last of which stands at a place.
pub record BeginsWith (d : Dialect) (text : List ℕ) (before : List Piece) (here : Piece)
    (at : ℕ) : Type 0 where
  pub end : ℕ
  pub rest : List ℕ
  pub reads : Reads d 0 text (before ++ here ∷ []) end rest
  pub place : here.at ≡ at

-- rule 1: no token begins at this byte
pub record IsBadByte (d : Dialect) (text : List ℕ) (at : ℕ) : Type 0 where
  pub before : List Piece
  pub rest : List ℕ
  pub reads : Reads d 0 text before at rest
  pub nothing : NothingBegins d rest

-- rule 2: no program begins with the tokens up to this one, or the text ends too early
pub data IsSyntaxFault {P : Type 0} (d : Dialect) (Derives : Language P) (text : List ℕ)
    : ℕ → Type 0 where
  AtToken : (at : ℕ) (before : List Piece) (here : Piece) → BeginsWith d text before here at
      → Viable Derives unlimited_nesting before
      → (Viable Derives unlimited_nesting (before ++ here ∷ []) → ⊥)
      → IsSyntaxFault d Derives text at
  AtEnd : (pieces : List Piece) → IsTokens d text pieces → Viable Derives unlimited_nesting pieces
      → ((p : P) → Derives unlimited_nesting p pieces → ⊥)
      → IsSyntaxFault d Derives text (length text)

-- rule 3: an integer is out of the range
pub record IsOutOfRange (d : Dialect) (text : List ℕ) (at : ℕ) : Type 0 where
  pub before : List Piece
  pub here : Piece
  pub begins : BeginsWith d text before here at
  pub integer : kind_of d here.bytes ≡ Some Digits
  pub outside : IsInRange (written_number here.bytes) → ⊥

-- rule 4: a program begins with the tokens up to this `(`, `let` or `case`, but none that has only
-- `most_open` of them open at one place
pub record IsTooDeep {P : Type 0} (d : Dialect) (Derives : Language P) (text : List ℕ)
    (at : ℕ) : Type 0 where
  pub before : List Piece
  pub here : Piece
  pub begins : BeginsWith d text before here at
  pub fits : Viable Derives at_most_200 before
  pub goes_on : Viable Derives unlimited_nesting (before ++ here ∷ [])
  pub too_many : Viable Derives at_most_200 (before ++ here ∷ []) → ⊥

-- Rule k is broken at a place of the text.
pub data IsUnread {P : Type 0} (d : Dialect) (Derives : Language P) (text : List ℕ)
    : (k at : ℕ) → Type 0 where
  BadByte : (at : ℕ) → IsBadByte d text at → IsUnread d Derives text 1 at
  Syntax : (at : ℕ) → IsSyntaxFault d Derives text at → IsUnread d Derives text 2 at
  NumberRange : (at : ℕ) → IsOutOfRange d text at → IsUnread d Derives text 3 at
  TooDeep : (at : ℕ) → IsTooDeep d Derives text at → IsUnread d Derives text 4 at
  TextTooLong : most_bytes < length text → IsUnread d Derives text 5 most_bytes

-- rule 5 is the first; then the first place, and at one place the smaller number
abbrev pub IsNoLaterFault : (k at k' at' : ℕ) → Type 0
IsNoLaterFault k at k' at' = (k ≡ 5) ⊎ ((k' ≢ 5) × ((at < at') ⊎ ((at ≡ at') × (k ≤ k'))))

-- Rule k is broken at this place, and no rule is broken before it.
pub record IsFirstUnread {P : Type 0} (d : Dialect) (Derives : Language P) (text : List ℕ)
    (k at : ℕ) : Type 0 where
  pub broken : IsUnread d Derives text k at
  pub first : (k' at' : ℕ) → IsUnread d Derives text k' at' → IsNoLaterFault k at k' at'

-- the rule and the place that a refusal names
abbrev pub IsCause : {P : Type 0} → Dialect → Language P → List ℕ → ReadRefusal → Type 0
IsCause d Derives text (refusal.BadByte at) = IsFirstUnread d Derives text 1 at
IsCause d Derives text (refusal.Syntax at) = IsFirstUnread d Derives text 2 at
IsCause d Derives text (refusal.NumberRange at) = IsFirstUnread d Derives text 3 at
IsCause d Derives text (refusal.TooDeep at) = IsFirstUnread d Derives text 4 at
IsCause d Derives text refusal.TextTooLong = IsFirstUnread d Derives text 5 most_bytes
IsCause d Derives text (refusal.Memory e) = Unit {0}

-- No rule is broken.
abbrev pub IsUnbroken : {P : Type 0} → Dialect → Language P → List ℕ → Type 0
IsUnbroken d Derives text = (k at : ℕ) → IsUnread d Derives text k at → ⊥
