-- The names of a linked program are names.
use Rattle.std.proofs.Common.{◌≡◌, ℕ, Bool, true, false, cond, List, [], ◌∷◌, ◌++◌, refl, sym, ap, subst, ◌∙◌, Option, Some, None, inl, inr}
use Rattle.std.specs.Prelude.{◌==◌, ◌&&◌, ◌||◌, not, codes}
use Rattle.std.specs.List.{list_any, list_all}
use Rattle.std.specs.Str.{bytes_eq}
use Rattle.seq.proofs.Truth.{two_ways, and_left, and_from, and_parts}
use Rattle.core_reader.specs.declared.dialect.Dialect.TheVariants.{Core}
use Rattle.core_reader.specs.declared.look.TokenKind.{TokenKind}
use Rattle.core_reader.specs.declared.look.TokenKind.TheVariants.{Lower, Upper, Digits, Sign}
use Rattle.core_reader.specs.declared.look.Sign.TheVariants.{Semicolon, Equals, OpenBrace, CloseBrace, Open, Close}
use Rattle.core_reader.specs.Bytes.{is_lower, is_upper, is_digit, is_inner}
use Rattle.core_reader.specs.TokensOf.{every, after_minus, arrow, of_one}
use Rattle.core_reader.specs.Tokens.{kind_of}
use Rattle.core_reader.specs.Words.{keyword_of}
use Rattle.core_reader.specs.Readable.{IsName}
use Rattle.arity_check.proofs.Names.{same_bytes}
use Rattle.core_link.specs.Module.{is_alphanumeric}
use Rattle.core_link.specs.Joinable.{IsPlain}
use Rattle.core_link.specs.Union.{global_text, local_text}
use Rattle.core_link.proofs.Different.{GlobalIs, Kept, Cut, global_is, LocalIs, Nameless, Quoted, local_is}

-- ---- the bytes of a name

abbrev NotLower : Option TokenKind → Type 0
NotLower (Some Lower) = ⊥
NotLower o = Unit {0}

sign_by : (a b c d e f : Bool) → NotLower
    (cond a (Some (Sign Semicolon))
    (cond b (Some (Sign Equals))
    (cond c (Some (Sign OpenBrace))
    (cond d (Some (Sign CloseBrace))
    (cond e (Some (Sign Open)) (cond f (Some (Sign Close)) None))))))
sign_by true b c d e f = tt
sign_by false true c d e f = tt
sign_by false false true d e f = tt
sign_by false false false true e f = tt
sign_by false false false false true f = tt
sign_by false false false false false true = tt
sign_by false false false false false false = tt

sign_not : (b : ℕ) (bs : List ℕ) → NotLower (of_one Core b bs)
sign_not b [] = sign_by (b == 59) (b == 61) (b == 123) (b == 125) (b == 40) (b == 41)
sign_not b (c ∷ bs) = tt

digits_not : (b : Bool) → NotLower (cond b (Some Digits) None)
digits_not true = tt
digits_not false = tt

arrow_not : (bs : List ℕ) → NotLower (arrow bs)
arrow_not [] = tt
arrow_not (b ∷ bs) = tt

either_not : (b : Bool) (o p : Option TokenKind) → NotLower o → NotLower p → NotLower (cond b o p)
either_not true o p h k = h
either_not false o p h k = k

minus_not : (bs : List ℕ) → NotLower (after_minus bs)
minus_not [] = tt
minus_not (c ∷ bs) = either_not (c == 62) (arrow bs)
    (cond (is_digit c && every is_digit bs) (Some Digits) None) (arrow_not bs)
    (digits_not (is_digit c && every is_digit bs))

lower_by : (l u g m e d : Bool) (a o : Option TokenKind) → NotLower a → NotLower o
    → cond l (cond e (Some Lower) None)
    (cond u (cond e (Some Upper) None) (cond g (cond d (Some Digits) None) (cond m a o))) ≡ Some
    Lower → (l ≡ true) × (e ≡ true)
lower_by true u g m true d a o h k q = (refl, refl)
lower_by true u g m false d a o h k q = absurd cc
lower_by false true g m true d a o h k q = absurd cc
lower_by false true g m false d a o h k q = absurd cc
lower_by false false true m e true a o h k q = absurd cc
lower_by false false true m e false a o h k q = absurd cc
lower_by false false false true e d a o h k q = absurd (subst NotLower q h)
lower_by false false false false e d a o h k q = absurd (subst NotLower q k)

lower_parts : (b : ℕ) (bs : List ℕ) → kind_of (b ∷ bs) ≡ Some Lower → (is_lower b ≡ true)
    × (every is_inner bs ≡ true)
lower_parts b bs e = lower_by (is_lower b) (is_upper b) (is_digit b) (b == 45) (every is_inner bs)
    (every is_digit bs) (after_minus bs) (of_one Core b bs) (minus_not bs) (sign_not b bs) e

every_append : (p : ℕ → Bool) (xs ys : List ℕ) → every p xs ≡ true → every p ys ≡ true
    → every p (xs ++ ys) ≡ true
every_append p [] ys h k = k
every_append p (x ∷ xs) ys h k = let r = and_parts (p x) (every p xs) h
    in and_from (p x) (every p (xs ++ ys)) r.0 (every_append p xs ys r.1 k)

longer_lower : (w v : List ℕ) → kind_of w ≡ Some Lower → every is_inner v ≡ true
    → kind_of (w ++ v) ≡ Some Lower
longer_lower [] v e h = absurd cc
longer_lower (b ∷ bs) v e h =
    let r = lower_parts b bs e in
    let t = every_append is_inner bs v r.1 h in
    rw (r.0, t) refl

-- ---- no keyword has a `'`

has_quote : List ℕ → Bool
has_quote w = list_any (λ b. b == 39) w

quoted : (f n : List ℕ) → has_quote (f ++ 39 ∷ n) ≡ true
unfolding has_quote
quoted [] n = refl
quoted (x ∷ f) n = or_later (x == 39) (has_quote (f ++ 39 ∷ n)) (quoted f n)
  where
    or_later : (a b : Bool) → b ≡ true → (a || b) ≡ true
    or_later true b h = refl
    or_later false b h = h

other_text : (w k : List ℕ) → has_quote w ≡ true → has_quote k ≡ false → bytes_eq w k ≡ false
other_text w k h n = elim (two_ways (bytes_eq w k)) [
  | inl y ↦
      let e : true ≡ false = sym h ∙ ap has_quote (same_bytes w k y) ∙ n in
      absurd cc
  | inr f ↦ f
]

quoted_no_keyword : (w : List ℕ) → has_quote w ≡ true → keyword_of w ≡ None
unfolding has_quote
quoted_no_keyword w h =
    let a = other_text w (codes "data") h refl in
    let b = other_text w (codes "let") h refl in
    let c = other_text w (codes "in") h refl in
    let d = other_text w (codes "case") h refl in
    let e = other_text w (codes "of") h refl in
    rw (a, b, c, d, e) refl

-- ---- the new names

quoted_name : (f n : List ℕ) → IsName f → every is_inner n ≡ true → IsName (f ++ 39 ∷ n)
quoted_name f n h k = (
  longer_lower f (39 ∷ n) h.0 (and_from (is_inner 39) (every is_inner n) refl k),
  quoted_no_keyword (f ++ 39 ∷ n) (quoted f n),
)

plain_inner : (n : List ℕ) → IsPlain n → every is_inner n ≡ true
plain_inner [] h = refl
plain_inner (b ∷ n) h =
    let r = and_parts (is_alphanumeric b) (list_all is_alphanumeric n) h in
    and_from (is_inner b) (every is_inner n)
    (and_left (is_inner b) (not (b == 95))
    (and_left (is_inner b && not (b == 95)) (not (b == 39)) r.0)) (plain_inner n r.1)

global_by : (f n w : List ℕ) → IsName f → IsPlain n → GlobalIs f n w → IsName w
global_by f n w h k (Kept a b e) = subst IsName (sym e) h
global_by f n w h k (Cut e) = subst IsName (sym e) (quoted_name f n h (plain_inner n k))

pub global_name : (f n : List ℕ) → IsName f → IsPlain n → IsName (global_text f n)
global_name f n h k = global_by f n (global_text f n) h k (global_is f n)

local_by : (x w : List ℕ) → IsName x → LocalIs x w → IsName w
local_by x w h (Nameless a e) = subst IsName (sym e) h
local_by x w h (Quoted e) = subst IsName (sym e) (quoted_name x [] h refl)

pub local_name : (x : List ℕ) → IsName x → IsName (local_text x)
local_name x h = local_by x (local_text x) h (local_is x)
