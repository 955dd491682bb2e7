-- What stands at the front of a text of a dialect, by its first bytes.
use Rattle.std.specs.Prelude.{ℕ, ◌+◌, List, [], ◌∷◌, length, ◌==◌, if◌then◌else◌}
use Rattle.std.specs.List.{take_while}
use Rattle.core_reader.specs.declared.dialect.Dialect.{Dialect}
use Rattle.core_reader.specs.declared.dialect.Dialect.TheVariants as dialect
use Rattle.core_reader.specs.declared.look.Sign.TheVariants.{Semicolon, Equals, OpenBrace, CloseBrace, Open, Close, Arrow, Backslash, Bar, Colon}
use Rattle.core_reader.specs.declared.look.TokenKind.TheVariants.{Lower, Upper, Digits, Sign}
use Rattle.core_reader.specs.declared.look.Found.{Found}
use Rattle.core_reader.specs.declared.look.Found.TheVariants.{Gap, Token, Bad, End}
use Rattle.core_reader.specs.Bytes.{is_space, is_lower, is_upper, is_digit, is_inner, is_in_line}

abbrev pub further_sign_of : Dialect → ℕ → Found
further_sign_of dialect.Core b = Bad
further_sign_of dialect.Modules b = Bad
further_sign_of dialect.Lambdas b = if b == 92 then Token 1 (Sign Backslash) else Bad
further_sign_of dialect.Types b =
    if b == 124 then Token 1 (Sign Bar) else (if b == 58 then Token 1 (Sign Colon) else Bad)

abbrev pub sign_of : Dialect → ℕ → Found
sign_of d b =
    if b == 59 then Token 1 (Sign Semicolon)
    else (if b == 61 then Token 1 (Sign Equals)
    else (if b == 123 then Token 1 (Sign OpenBrace)
    else (if b == 125 then Token 1 (Sign CloseBrace)
    else (if b == 40 then Token 1 (Sign Open)
    else (if b == 41 then Token 1 (Sign Close)
    else further_sign_of d b)))))

abbrev pub scanned_minus : List ℕ → Found
scanned_minus [] = Bad
scanned_minus (c ∷ tail) =
    if c == 45 then Gap (2 + length (take_while is_in_line tail))
    else (if c == 62 then Token 2 (Sign Arrow)
    else (if is_digit c then Token (2 + length (take_while is_digit tail)) Digits
    else Bad))

abbrev pub scanned_token : Dialect → List ℕ → Found
scanned_token d [] = End
scanned_token d (b ∷ rest) =
    if is_space b then Gap 1
    else (if is_lower b then Token (1 + length (take_while is_inner rest)) Lower
    else (if is_upper b then Token (1 + length (take_while is_inner rest)) Upper
    else (if is_digit b then Token (1 + length (take_while is_digit rest)) Digits
    else (if b == 45 then scanned_minus rest
    else sign_of d b))))
