-- By its first letter a text is a name or a constructor.
use Rattle.std.proofs.Common.{◌≡◌, ℕ, Bool, true, false, cond, List, [], ◌∷◌, Option, Some, None, refl, subst, arith, inl, inr}
use Rattle.std.specs.Prelude.{◌==◌, ◌&&◌, nat_lt}
use Rattle.std.proofs.lemmas.Bool.{eqb-true}
use Rattle.seq.proofs.Truth.{and_parts, or_cases, two_ways}
use Rattle.seq.proofs.Order.{lt_from}
use Rattle.core_reader.specs.declared.dialect.Dialect.TheVariants.{Core}
use Rattle.core_reader.specs.declared.look.TokenKind.{TokenKind}
use Rattle.core_reader.specs.declared.look.TokenKind.TheVariants.{Lower, Upper, Digits, Sign}
use Rattle.core_reader.specs.declared.look.Sign.TheVariants.{Semicolon, Equals, OpenBrace, CloseBrace, Open, Close, Arrow}
use Rattle.core_reader.specs.Bytes.{is_lower, is_upper, is_digit, is_inner}
use Rattle.core_reader.specs.TokensOf.{every, after_minus, of_one}
use Rattle.core_reader.specs.Readable.{IsName, IsConstructor}
use Rattle.core_link.specs.Module.{begins_upper}

NoLetters : Option TokenKind → Type 0
NoLetters (Some Lower) = ⊥
NoLetters (Some Upper) = ⊥
NoLetters (Some Digits) = Unit {0}
NoLetters (Some (Sign s)) = Unit {0}
NoLetters None = Unit {0}

no_lower : NoLetters (Some Lower) → ⊥
unfolding NoLetters
no_lower h = h

no_upper : NoLetters (Some Upper) → ⊥
unfolding NoLetters
no_upper h = h

none : NoLetters None
unfolding NoLetters
none = tt

one_sign : (b : Bool) (s : _) (more : Option TokenKind) → NoLetters more
    → NoLetters (cond b (Some (Sign s)) more)
unfolding NoLetters
one_sign true s more h = tt
one_sign false s more h = h

digits : (b : Bool) → NoLetters (cond b (Some Digits) None)
unfolding NoLetters
digits true = tt
digits false = tt

nothing : (b : Bool) (more : Option TokenKind) → NoLetters more → NoLetters (cond b None more)
unfolding NoLetters
nothing true more h = tt
nothing false more h = h

after_minus_none : (bs : List ℕ) → NoLetters (after_minus bs)
after_minus_none [] = none
after_minus_none (c ∷ []) = one_sign _ Arrow _ (digits _)
after_minus_none (c ∷ d ∷ bs) = nothing _ _ (digits _)

of_one_none : (b : ℕ) (bs : List ℕ) → NoLetters (of_one Core b bs)
of_one_none b [] = one_sign _ Semicolon _
    (one_sign _ Equals _
    (one_sign _ OpenBrace _
    (one_sign _ CloseBrace _ (one_sign _ Open _ (one_sign _ Close _ none)))))
of_one_none b (c ∷ bs) = none

upper_by : (b1 b2 b3 b4 i j k : Bool) (u v : Option TokenKind) → NoLetters u → NoLetters v
    → cond b1 (cond i (Some Lower) None)
    (cond b2 (cond j (Some Upper) None) (cond b3 (cond k (Some Digits) None) (cond b4 u v))) ≡
    Some Upper → b2 ≡ true
upper_by true b2 b3 b4 true j k u v h g e = absurd cc
upper_by true b2 b3 b4 false j k u v h g e = absurd cc
upper_by false true b3 b4 i j k u v h g e = refl
upper_by false false true b4 i j true u v h g e = absurd cc
upper_by false false true b4 i j false u v h g e = absurd cc
upper_by false false false true i j k u v h g e = absurd (no_upper (subst NoLetters e h))
upper_by false false false false i j k u v h g e = absurd (no_upper (subst NoLetters e g))

lower_by : (b1 b2 b3 b4 i j k : Bool) (u v : Option TokenKind) → NoLetters u → NoLetters v
    → cond b1 (cond i (Some Lower) None)
    (cond b2 (cond j (Some Upper) None) (cond b3 (cond k (Some Digits) None) (cond b4 u v))) ≡
    Some Lower → b1 ≡ true
lower_by true b2 b3 b4 i j k u v h g e = refl
lower_by false true b3 b4 i true k u v h g e = absurd cc
lower_by false true b3 b4 i false k u v h g e = absurd cc
lower_by false false true b4 i j true u v h g e = absurd cc
lower_by false false true b4 i j false u v h g e = absurd cc
lower_by false false false true i j k u v h g e = absurd (no_lower (subst NoLetters e h))
lower_by false false false false i j k u v h g e = absurd (no_lower (subst NoLetters e g))

pub constructor_upper : (w : List ℕ) → IsConstructor w → begins_upper w ≡ true
constructor_upper [] h = absurd cc
constructor_upper (b ∷ bs) h = upper_by (is_lower b) (is_upper b) (is_digit b) (b == 45)
    (every is_inner bs) (every is_inner bs) (every is_digit bs) (after_minus bs) (of_one Core b bs)
    (after_minus_none bs) (of_one_none b bs) h

not_both_cases : (b : ℕ) → is_lower b ≡ true → is_upper b ≡ true → ⊥
not_both_cases b h g =
    let u = and_parts (nat_lt 64 b) (nat_lt b 91) g in
    let over = lt_from b 91 u.1 in
    elim (or_cases (nat_lt 96 b && nat_lt b 123) (b == 95) h) [
      | inl l ↦
          (let v = lt_from 96 b (and_parts (nat_lt 96 b) (nat_lt b 123) l).0
          in omega (arith, v, over))
      | inr e ↦ (let v = eqb-true b 95 e in omega (arith, v, over))
    ]

pub name_lower : (w : List ℕ) → IsName w → begins_upper w ≡ false
name_lower [] h = refl
name_lower (b ∷ bs) h =
    let l = lower_by (is_lower b) (is_upper b) (is_digit b) (b == 45) (every is_inner bs)
    (every is_inner bs) (every is_digit bs) (after_minus bs) (of_one Core b bs)
    (after_minus_none bs) (of_one_none b bs) h.0 in
    elim (two_ways (is_upper b)) [ inl y ↦ absurd (not_both_cases b l y) | inr n ↦ n ]
