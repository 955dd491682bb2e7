-- What a token of a dialect says: its word or sign, its number, or the number of its name.
use Rattle.std.specs.Prelude.{ℕ, ◌+◌, ◌*◌, ◌-◌, ◌==◌, ◌≤ℤ◌, ℤ, pos, negsuc, neg_ℤ, Bool, false, List, [], ◌∷◌, codes, Option, Some, None, if◌then◌else◌}
use Rattle.std.specs.Str.{bytes_eq}
use Rattle.std.specs.List.{position_or_len}
use Rattle.core_reader.specs.declared.dialect.Dialect.{Dialect}
use Rattle.core_reader.specs.declared.dialect.Dialect.TheVariants as dialect
use Rattle.core_reader.specs.declared.look.Sign as sign
use Rattle.core_reader.specs.declared.look.Sign.TheVariants as signs
use Rattle.core_reader.specs.declared.look.TokenKind.{TokenKind}
use Rattle.core_reader.specs.declared.look.TokenKind.TheVariants.{Lower, Upper, Digits, Sign}
use Rattle.core_reader.specs.declared.token.Token.{Token}
use Rattle.core_reader.specs.declared.token.Token.TheVariants as word
use Rattle.core_reader.specs.declared.token.Further.TheVariants as further
use Rattle.core_reader.specs.declared.token.Lexeme.{Lexeme}
use Rattle.core_reader.specs.TokensOf.{Piece, kind_of}
use Rattle.core_reader.specs.Grammar.{lexeme, name_id}

-- the number that digits stand for, the first of them after those of n
abbrev pub digits_from : ℕ → List ℕ → ℕ
digits_from n [] = n
digits_from n (b ∷ bs) = digits_from (10 * n + (b - 48)) bs

-- an optional `-` and digits: whether the `-` is there, and the number
abbrev pub has_minus : List ℕ → Bool
has_minus [] = false
has_minus (b ∷ bs) = b == 45

abbrev pub written_number : List ℕ → ℤ
written_number [] = pos 0
written_number (b ∷ bs) =
    if b == 45 then neg_ℤ (pos (digits_from 0 bs)) else pos (digits_from 0 (b ∷ bs))

-- a whole number of 32 bits
abbrev pub IsInRange : ℤ → Type 0
IsInRange k = (negsuc 2147483647 ≤ℤ k) × (k ≤ℤ pos 2147483647)

abbrev pub sign_token : sign.Sign → Token
sign_token signs.Semicolon = word.Semicolon
sign_token signs.Equals = word.Equals
sign_token signs.OpenBrace = word.OpenBrace
sign_token signs.CloseBrace = word.CloseBrace
sign_token signs.Open = word.Open
sign_token signs.Close = word.Close
sign_token signs.Arrow = word.Arrow
sign_token signs.Backslash = word.Further further.Backslash
sign_token signs.Bar = word.Further further.Bar
sign_token signs.Colon = word.Further further.Colon

-- the token of a keyword of this dialect that is none of Core
abbrev pub further_keyword_of : Dialect → List ℕ → Option Token
further_keyword_of dialect.Core w = None
further_keyword_of dialect.Modules w =
    if bytes_eq w (codes "module") then Some (word.Further further.Module)
    else (if bytes_eq w (codes "export") then Some (word.Further further.Export)
    else (if bytes_eq w (codes "import") then Some (word.Further further.Import)
    else None))
further_keyword_of dialect.Lambdas w = None
further_keyword_of dialect.Types w =
    if bytes_eq w (codes "type") then Some (word.Further further.TypeDecl)
    else (if bytes_eq w (codes "sig") then Some (word.Further further.Signature)
    else None)

-- the token of a keyword
abbrev pub keyword_of : Dialect → List ℕ → Option Token
keyword_of d w =
    if bytes_eq w (codes "data") then Some word.Data
    else (if bytes_eq w (codes "let") then Some word.Let
    else (if bytes_eq w (codes "in") then Some word.In
    else (if bytes_eq w (codes "case") then Some word.Case
    else (if bytes_eq w (codes "of") then Some word.Of
    else further_keyword_of d w))))

-- the number of a name: its first place among the names
abbrev pub number_in : List (List ℕ) → List ℕ → ℕ
number_in names w = position_or_len (bytes_eq w) names

-- a keyword, or else a name
abbrev pub keyword_or_name : List (List ℕ) → List ℕ → Option Token → Token
keyword_or_name names w (Some keyword) = keyword
keyword_or_name names w None = word.Name (name_id (number_in names w))

abbrev pub said_by : Dialect → List (List ℕ) → List ℕ → Option TokenKind → Token
said_by d names w None = word.Bad
said_by d names w (Some Lower) = keyword_or_name names w (keyword_of d w)
said_by d names w (Some Upper) = word.Con (name_id (number_in names w))
said_by d names w (Some Digits) = word.Number (has_minus w) (written_number w)
said_by d names w (Some (Sign s)) = sign_token s

-- The token that bytes are, where names have their numbers.
abbrev pub said : Dialect → List (List ℕ) → Piece → Lexeme
said d names piece = lexeme piece.at (said_by d names piece.bytes (kind_of d piece.bytes))
