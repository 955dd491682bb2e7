-- The tokens of a text of a dialect, by the longest-token rule.
use Rattle.std.specs.Prelude.{◌≡◌, ℕ, ◌+◌, ◌<◌, ◌≤◌, Bool, true, List, [], ◌∷◌, length, take, drop, ◌==◌, ◌&&◌, if◌then◌else◌, Option, Some, None, ◌⊎◌}
use Rattle.std.specs.List.{take_while}
use Rattle.core_reader.specs.declared.dialect.Dialect.{Dialect}
use Rattle.core_reader.specs.declared.dialect.Dialect.TheVariants as dialect
use Rattle.core_reader.specs.declared.look.Sign.TheVariants.{Semicolon, Equals, OpenBrace, CloseBrace, Open, Close, Arrow, Backslash, Bar, Colon}
use Rattle.core_reader.specs.declared.look.TokenKind.{TokenKind}
use Rattle.core_reader.specs.declared.look.TokenKind.TheVariants.{Lower, Upper, Digits, Sign}
use Rattle.core_reader.specs.Bytes.{is_space, is_lower, is_upper, is_digit, is_inner, is_in_line}

abbrev pub every : (ℕ → Bool) → List ℕ → Bool
every p [] = true
every p (b ∷ bs) = p b && every p bs

-- the sign that one byte is in this dialect, but not in Core
abbrev pub further_sign : Dialect → ℕ → Option TokenKind
further_sign dialect.Core b = None
further_sign dialect.Modules b = None
further_sign dialect.Lambdas b = if b == 92 then Some (Sign Backslash) else None
further_sign dialect.Types b =
    if b == 124 then Some (Sign Bar) else (if b == 58 then Some (Sign Colon) else None)

-- the sign that one byte is
abbrev pub sign : Dialect → ℕ → Option TokenKind
sign d b =
    if b == 59 then Some (Sign Semicolon)
    else (if b == 61 then Some (Sign Equals)
    else (if b == 123 then Some (Sign OpenBrace)
    else (if b == 125 then Some (Sign CloseBrace)
    else (if b == 40 then Some (Sign Open)
    else (if b == 41 then Some (Sign Close)
    else further_sign d b)))))

abbrev pub of_one : Dialect → ℕ → List ℕ → Option TokenKind
of_one d b [] = sign d b
of_one d b (c ∷ bs) = None

abbrev pub arrow : List ℕ → Option TokenKind
arrow [] = Some (Sign Arrow)
arrow (c ∷ bs) = None

-- what follows a `-` in a token
abbrev pub after_minus : List ℕ → Option TokenKind
after_minus [] = None
after_minus (c ∷ bs) =
    if c == 62 then arrow bs else (if is_digit c && every is_digit bs then Some Digits else None)

-- The kind of token that all of the bytes are, or none. A keyword is of the kind of names.
abbrev pub kind_of : Dialect → List ℕ → Option TokenKind
kind_of d [] = None
kind_of d (b ∷ bs) =
    if is_lower b then (if every is_inner bs then Some Lower else None)
    else (if is_upper b then (if every is_inner bs then Some Upper else None)
    else (if is_digit b then (if every is_digit bs then Some Digits else None)
    else (if b == 45 then after_minus bs
    else of_one d b bs)))

-- The first n bytes are a token, and no more of them are one.
pub record Longest (d : Dialect) (n : ℕ) (bytes : List ℕ) (kind : TokenKind) : Type 0 where
  pub within : n ≤ length bytes
  pub is_token : kind_of d (take n bytes) ≡ Some kind
  pub no_longer : (m : ℕ) → n < m → m ≤ length bytes → kind_of d (take m bytes) ≡ None

-- The first n bytes are a separator, or a comment up to its line feed or the end.
abbrev pub IsSeparator : ℕ → List ℕ → Type 0
IsSeparator n [] = ⊥
IsSeparator n (b ∷ bs) =
    ((is_space b ≡ true) × (n ≡ 1))
    ⊎ ((rest : List ℕ) × (b ≡ 45) × (bs ≡ 45 ∷ rest)
    × (n ≡ 2 + length (take_while is_in_line rest)))

-- a token's bytes, and the place of the first of them
pub record Piece : Type 0 where
  pub bytes : List ℕ
  pub at : ℕ

-- From a place on the text has these tokens, and then stands at an end, before a rest.
pub data Reads (d : Dialect)
    : (at : ℕ) → List ℕ → List Piece → (end : ℕ) → List ℕ → Type 0 where
  Stops : (at : ℕ) (rest : List ℕ) → Reads d at rest [] at rest
  Passes : (at n : ℕ) (bytes : List ℕ) (pieces : List Piece) (end : ℕ) (rest : List ℕ)
      → IsSeparator n bytes → Reads d (at + n) (drop n bytes) pieces end rest
      → Reads d at bytes pieces end rest
  Takes : (at n : ℕ) (bytes : List ℕ) (kind : TokenKind) (pieces : List Piece)
      (end : ℕ) (rest : List ℕ)
      → Longest d n bytes kind → Reads d (at + n) (drop n bytes) pieces end rest
      → Reads d at bytes (record { bytes = take n bytes; at = at } ∷ pieces) end rest

-- the tokens of a whole text
abbrev pub IsTokens : Dialect → List ℕ → List Piece → Type 0
IsTokens d text pieces = Reads d 0 text pieces (length text) []

-- No token, separator or comment begins at the first byte.
pub record NothingBegins (d : Dialect) (bytes : List ℕ) : Type 0 where
  pub no_gap : (n : ℕ) → IsSeparator n bytes → ⊥
  pub no_token : (n : ℕ) → kind_of d (take n bytes) ≡ None
  pub not_end : bytes ≡ [] → ⊥
