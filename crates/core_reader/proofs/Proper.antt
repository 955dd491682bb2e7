-- Bytes of a kind of token are never read as a bad byte, as the end or as a number out of the
-- range.
use Rattle.std.proofs.Common.{◌≡◌, ℕ, Bool, true, false, cond, List, Option, Some, None, sym, subst}
use Rattle.core_reader.specs.declared.dialect.Dialect.{Dialect}
use Rattle.core_reader.specs.declared.dialect.Dialect.TheVariants as dialect
use Rattle.core_reader.specs.declared.look.TokenKind.{TokenKind}
use Rattle.core_reader.specs.declared.look.TokenKind.TheVariants.{Lower, Upper, Digits, Sign}
use Rattle.core_reader.specs.declared.look.Sign.TheVariants as signs
use Rattle.core_reader.specs.declared.token.Token.{Token}
use Rattle.core_reader.specs.declared.token.Token.TheVariants as word
use Rattle.core_reader.specs.declared.token.Further.TheVariants as further
use Rattle.core_reader.specs.TokensOf.{Piece, kind_of}
use Rattle.core_reader.specs.WordsOf.{said, said_by, keyword_or_name, sign_token, keyword_of, further_keyword_of}

abbrev pub IsProper : Token → Type 0
IsProper (word.Large minus) = ⊥
IsProper word.Bad = ⊥
IsProper word.End = ⊥
IsProper token = Unit {0}

-- a keyword or a sign
abbrev pub IsWord : Token → Type 0
IsWord (word.Name n) = ⊥
IsWord (word.Con n) = ⊥
IsWord (word.Number minus k) = ⊥
IsWord (word.Large minus) = ⊥
IsWord word.Bad = ⊥
IsWord word.End = ⊥
IsWord token = Unit {0}

word_proper : (token : Token) → IsWord token → IsProper token
word_proper (word.Name n) h = absurd h
word_proper (word.Con n) h = absurd h
word_proper (word.Number minus k) h = absurd h
word_proper (word.Large minus) h = h
word_proper word.Bad h = h
word_proper word.End h = h
word_proper token h = tt

pub sign_is_word : (s : _) → IsWord (sign_token s)
sign_is_word signs.Semicolon = tt
sign_is_word signs.Equals = tt
sign_is_word signs.OpenBrace = tt
sign_is_word signs.CloseBrace = tt
sign_is_word signs.Open = tt
sign_is_word signs.Close = tt
sign_is_word signs.Arrow = tt
sign_is_word signs.Backslash = tt
sign_is_word signs.Bar = tt
sign_is_word signs.Colon = tt

-- the token of a keyword
abbrev pub IsKeyword : Option Token → Type 0
IsKeyword (Some token) = IsWord token
IsKeyword None = Unit {0}

module_words : (b1 b2 b3 : Bool) → IsKeyword
    (cond b1 (Some (word.Further further.Module))
    (cond b2 (Some (word.Further further.Export))
    (cond b3 (Some (word.Further further.Import)) None)))
module_words true b2 b3 = tt
module_words false true b3 = tt
module_words false false true = tt
module_words false false false = tt

type_words : (b1 b2 : Bool) → IsKeyword
    (cond b1 (Some (word.Further further.TypeDecl))
    (cond b2 (Some (word.Further further.Signature)) None))
type_words true b2 = tt
type_words false true = tt
type_words false false = tt

further_is_word : (d : Dialect) (w : List ℕ) → IsKeyword (further_keyword_of d w)
further_is_word dialect.Core w = tt
further_is_word dialect.Modules w = module_words _ _ _
further_is_word dialect.Lambdas w = tt
further_is_word dialect.Types w = type_words _ _

keyword_by : (b1 b2 b3 b4 b5 : Bool) (more : Option Token) → IsKeyword more
    → IsKeyword
    (cond b1 (Some word.Data)
    (cond b2 (Some word.Let)
    (cond b3 (Some word.In) (cond b4 (Some word.Case) (cond b5 (Some word.Of) more)))))
keyword_by true b2 b3 b4 b5 more h = tt
keyword_by false true b3 b4 b5 more h = tt
keyword_by false false true b4 b5 more h = tt
keyword_by false false false true b5 more h = tt
keyword_by false false false false true more h = tt
keyword_by false false false false false more h = h

pub keyword_is_word : (d : Dialect) (w : List ℕ) → IsKeyword (keyword_of d w)
keyword_is_word d w = keyword_by _ _ _ _ _ (further_keyword_of d w) (further_is_word d w)

letters_proper : (names : List (List ℕ)) (w : List ℕ) (keyword : Option Token) → IsKeyword keyword
    → IsProper (keyword_or_name names w keyword)
letters_proper names w (Some token) h = word_proper token h
letters_proper names w None h = tt

module _ (d : Dialect) where
  pub proper : (names : List (List ℕ)) (w : List ℕ) (kind : TokenKind)
      → IsProper (said_by d names w (Some kind))
  proper names w Lower = letters_proper names w (keyword_of d w) (keyword_is_word d w)
  proper names w Upper = tt
  proper names w Digits = tt
  proper names w (Sign s) = word_proper (sign_token s) (sign_is_word s)

  no_end_by : (names : List (List ℕ)) (w : List ℕ) (kind : Option TokenKind)
      → said_by d names w kind ≡ word.End → ⊥
  no_end_by names w None e = cc
  no_end_by names w (Some kind) e = subst IsProper e (proper names w kind)

  no_large_by : (names : List (List ℕ)) (w : List ℕ) (kind : Option TokenKind) (minus : Bool)
      → said_by d names w kind ≡ word.Large minus → ⊥
  no_large_by names w None minus e = cc
  no_large_by names w (Some kind) minus e = subst IsProper e (proper names w kind)

  pub no_end : (names : List (List ℕ)) (x : Piece) → (said d names x).token ≡ word.End → ⊥
  no_end names x e = no_end_by names x.bytes (kind_of d x.bytes) e

  pub no_large : (names : List (List ℕ)) (x : Piece) (minus : Bool)
      → (said d names x).token ≡ word.Large minus → ⊥
  no_large names x minus e = no_large_by names x.bytes (kind_of d x.bytes) minus e

  pub no_bad : (names : List (List ℕ)) (w : List ℕ) (kind : TokenKind) → kind_of d w ≡ Some kind
      → said_by d names w (kind_of d w) ≡ word.Bad → ⊥
  no_bad names w kind e h = subst IsProper h
      (subst (λ o. IsProper (said_by d names w o)) (sym e) (proper names w kind))
