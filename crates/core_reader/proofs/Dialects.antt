-- What is a name or a constructor in any dialect is one in Core.
use Rattle.std.proofs.Common.{◌≡◌, ℕ, Bool, true, false, cond, List, [], ◌∷◌, Option, Some, None, refl, subst}
use Rattle.std.specs.Prelude.{◌==◌}
use Rattle.core_reader.specs.declared.dialect.Dialect.{Dialect}
use Rattle.core_reader.specs.declared.dialect.Dialect.TheVariants as dialect
use Rattle.core_reader.specs.declared.look.TokenKind.{TokenKind}
use Rattle.core_reader.specs.declared.look.TokenKind.TheVariants.{Lower, Upper, Digits, Sign}
use Rattle.core_reader.specs.declared.look.Sign.TheVariants.{Semicolon, Equals, OpenBrace, CloseBrace, Open, Close, Backslash, Bar, Colon}
use Rattle.core_reader.specs.declared.token.Token.{Token}
use Rattle.core_reader.specs.declared.token.Token.TheVariants as word
use Rattle.core_reader.specs.Bytes.{is_lower, is_upper, is_digit, is_inner}
use Rattle.core_reader.specs.TokensOf.{every, kind_of, after_minus, of_one, further_sign}
use Rattle.core_reader.specs.WordsOf.{keyword_of}

-- no word of Core is none of the dialect
none_by : (b1 b2 b3 b4 b5 : Bool) (more : Option Token)
    → cond b1 (Some word.Data)
    (cond b2 (Some word.Let)
    (cond b3 (Some word.In) (cond b4 (Some word.Case) (cond b5 (Some word.Of) more)))) ≡ None
    → cond b1 (Some word.Data)
    (cond b2 (Some word.Let)
    (cond b3 (Some word.In) (cond b4 (Some word.Case) (cond b5 (Some word.Of) None)))) ≡ None
none_by true b2 b3 b4 b5 more e = absurd cc
none_by false true b3 b4 b5 more e = absurd cc
none_by false false true b4 b5 more e = absurd cc
none_by false false false true b5 more e = absurd cc
none_by false false false false true more e = absurd cc
none_by false false false false false more e = refl

pub no_keyword : (d : Dialect) (w : List ℕ) → keyword_of d w ≡ None
    → keyword_of dialect.Core w ≡ None
no_keyword d w e = none_by _ _ _ _ _ _ e

IsSignOrNone : Option TokenKind → Type 0
IsSignOrNone (Some Lower) = ⊥
IsSignOrNone (Some Upper) = ⊥
IsSignOrNone (Some Digits) = ⊥
IsSignOrNone (Some (Sign s)) = Unit {0}
IsSignOrNone None = Unit {0}

none : IsSignOrNone None
unfolding IsSignOrNone
none = tt

one_sign : (b : Bool) (s : _) (more : Option TokenKind) → IsSignOrNone more
    → IsSignOrNone (cond b (Some (Sign s)) more)
unfolding IsSignOrNone
one_sign true s more h = tt
one_sign false s more h = h

further_is_sign : (d : Dialect) (b : ℕ) → IsSignOrNone (further_sign d b)
further_is_sign dialect.Core b = none
further_is_sign dialect.Modules b = none
further_is_sign dialect.Lambdas b = one_sign _ Backslash None none
further_is_sign dialect.Types b = one_sign _ Bar _ (one_sign _ Colon None none)

sign_is_sign : (d : Dialect) (b : ℕ) (bs : List ℕ) → IsSignOrNone (of_one d b bs)
sign_is_sign d b [] =
    one_sign _ Semicolon _
    (one_sign _ Equals _
    (one_sign _ OpenBrace _
    (one_sign _ CloseBrace _ (one_sign _ Open _ (one_sign _ Close _ (further_is_sign d b))))))
sign_is_sign d b (c ∷ bs) = none

kind_by : (b1 b2 b3 b4 : Bool) (x y z u v v' : Option TokenKind) (k : TokenKind)
    → (v ≡ Some k → v' ≡ Some k)
    → cond b1 x (cond b2 y (cond b3 z (cond b4 u v))) ≡ Some k
    → cond b1 x (cond b2 y (cond b3 z (cond b4 u v'))) ≡ Some k
kind_by true b2 b3 b4 x y z u v v' k h e = e
kind_by false true b3 b4 x y z u v v' k h e = e
kind_by false false true b4 x y z u v v' k h e = e
kind_by false false false true x y z u v v' k h e = e
kind_by false false false false x y z u v v' k h e = h e

no_sign : (d : Dialect) (b : ℕ) (bs : List ℕ) (k : TokenKind) → (IsSignOrNone (Some k) → ⊥)
    → of_one d b bs ≡ Some k → of_one dialect.Core b bs ≡ Some k
no_sign d b bs k h e = absurd (h (subst IsSignOrNone e (sign_is_sign d b bs)))

in_core : (d : Dialect) (b : ℕ) (bs : List ℕ) (k : TokenKind) → (IsSignOrNone (Some k) → ⊥)
    → kind_of d (b ∷ bs) ≡ Some k → kind_of dialect.Core (b ∷ bs) ≡ Some k
in_core d b bs k h e =
    kind_by (is_lower b) (is_upper b) (is_digit b) (b == 45)
    (cond (every is_inner bs) (Some Lower) None) (cond (every is_inner bs) (Some Upper) None)
    (cond (every is_digit bs) (Some Digits) None)
    (after_minus bs) (of_one d b bs) (of_one dialect.Core b bs) k (no_sign d b bs k h) e

pub lower_in_core : (d : Dialect) (w : List ℕ) → kind_of d w ≡ Some Lower
    → kind_of dialect.Core w ≡ Some Lower
unfolding IsSignOrNone
lower_in_core d [] e = absurd cc
lower_in_core d (b ∷ bs) e = in_core d b bs Lower (λ h. h) e

pub upper_in_core : (d : Dialect) (w : List ℕ) → kind_of d w ≡ Some Upper
    → kind_of dialect.Core w ≡ Some Upper
unfolding IsSignOrNone
upper_in_core d [] e = absurd cc
upper_in_core d (b ∷ bs) e = in_core d b bs Upper (λ h. h) e
