-- What the lexer of a dialect gives: the tokens of a text up to one behind which nothing is read.
use Rattle.std.specs.Prelude.{◌≡◌, ℕ, ◌<◌, ◌≤◌, ℤ, Bool, true, false, List, [], ◌∷◌, ◌++◌, take, map, Option, Some, MatchOption, if◌then◌else◌}
use denote.Ref.{Bor}
use Rattle.core_reader.specs.declared.syntax.NameId.{NameId}
use Rattle.core_reader.specs.declared.dialect.Dialect.{Dialect}
use Rattle.core_reader.specs.declared.look.TokenKind.{TokenKind}
use Rattle.core_reader.specs.declared.look.TokenKind.TheVariants.{Digits}
use Rattle.core_reader.specs.declared.token.Token.{Token}
use Rattle.core_reader.specs.declared.token.Token.TheVariants as word
use Rattle.core_reader.specs.declared.token.Lexeme.{Lexeme}
use Rattle.core_reader.specs.Grammar.{lexeme}
use Rattle.core_reader.specs.TokensOf.{Piece, Reads, Longest, NothingBegins, kind_of}
use Rattle.core_reader.specs.WordsOf.{has_minus, written_number, said, said_by, number_in, IsInRange}
use Rattle.core_reader.specs.NamesOf.{names_of, with_name, is_numbered_by}

-- the bytes of the names that the table holds
abbrev pub texts_of : List (Bor (List ℕ)) → List (List ℕ)
texts_of keys = map (λ k. k.now) keys

abbrev pub is_large : Token → Bool
is_large (word.Large minus) = true
is_large token = false

-- a magnitude, or that the number is larger than any
abbrev pub IsSize : Option ℕ → ℕ → Type 0
IsSize size n = MatchOption size (2147483648 < n) (λ m. (m ≡ n) × (m ≤ 2147483648))

-- the token of a number, with its sign or out of the range
abbrev pub IsSigned : Bool → ℤ → Token → Type 0
IsSigned minus k (word.Number m v) = (m ≡ minus) × (v ≡ k) × IsInRange k
IsSigned minus k (word.Large m) = (m ≡ minus) × (IsInRange k → ⊥)
IsSigned minus k token = ⊥

-- a name's number, and the names with it
abbrev pub IsNumberOf : List (List ℕ) → List (List ℕ) → List ℕ → NameId → Type 0
IsNumberOf old new w id = (new ≡ with_name old w) × (id.0 ≡ number_in new w)

abbrev pub IsTokenOfKind : Dialect → List (List ℕ) → List ℕ → TokenKind → Token → Type 0
IsTokenOfKind d names w Digits token = IsSigned (has_minus w) (written_number w) token
IsTokenOfKind d names w kind token = token ≡ said_by d names w (Some kind)

-- the token of bytes of this kind, and the names with it
pub record IsTokenOf (d : Dialect) (old new : List (List ℕ)) (w : List ℕ) (kind : TokenKind)
    (token : Token) : Type 0 where
  pub names : new ≡ (if is_numbered_by d w (Some kind) then with_name old w else old)
  pub says : IsTokenOfKind d new w kind token

-- why nothing is read behind a token that stands before a rest
pub data StopsAt (d : Dialect) (at : ℕ) (rest : List ℕ) : Lexeme → Type 0 where
  AtEnd : rest ≡ [] → StopsAt d at rest (lexeme at word.End)
  AtBad : NothingBegins d rest → StopsAt d at rest (lexeme at word.Bad)
  AtLarge : (n : ℕ) → Longest d n rest Digits → (IsInRange (written_number (take n rest)) → ⊥)
      → StopsAt d at rest (lexeme at (word.Large (has_minus (take n rest))))

-- each integer is in the range
abbrev pub AreInRange : Dialect → List Piece → Type 0
AreInRange d [] = Unit {0}
AreInRange d (p ∷ ps) =
    (kind_of d p.bytes ≡ Some Digits → IsInRange (written_number p.bytes)) × AreInRange d ps

pub record IsLexed (d : Dialect) (text : List ℕ) (lexemes : List Lexeme) (names : List (List ℕ))
    : Type 0 where
  pub pieces : List Piece
  pub at : ℕ
  pub rest : List ℕ
  pub reads : Reads d 0 text pieces at rest
  pub named : names ≡ names_of d pieces
  pub in_range : AreInRange d pieces
  pub last : Lexeme
  pub stop : StopsAt d at rest last
  pub lexed : lexemes ≡ map (said d names) pieces ++ last ∷ []
