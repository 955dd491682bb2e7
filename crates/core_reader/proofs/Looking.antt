-- What is looked up at the front is the longest token there.
use Rattle.std.proofs.Common.{◌≡◌, ℕ, zero, suc, ◌+◌, ◌<◌, ◌≤◌, Bool, true, false, cond, eqb, List, [], ◌∷◌, length, take, Some, None, refl, sym, ap, subst, ◌∙◌, arith, inl, inr}
use Rattle.std.specs.List.{take_while}
use Rattle.std.proofs.lemmas.Bool.{eqb-true}
use Rattle.core_reader.specs.declared.dialect.Dialect.{Dialect}
use Rattle.core_reader.specs.declared.dialect.Dialect.TheVariants as dialect
use Rattle.core_reader.specs.declared.look.Sign.TheVariants.{Semicolon, Equals, OpenBrace, CloseBrace, Open, Close, Arrow, Backslash, Bar, Colon}
use Rattle.core_reader.specs.declared.look.TokenKind.{TokenKind}
use Rattle.core_reader.specs.declared.look.TokenKind.TheVariants.{Lower, Upper, Digits, Sign}
use Rattle.core_reader.specs.declared.look.Found.{Found}
use Rattle.core_reader.specs.declared.look.Found.TheVariants.{Gap, Token, Bad, End}
use Rattle.core_reader.specs.Bytes.{is_space, is_lower, is_upper, is_digit, is_inner, is_in_line}
use Rattle.core_reader.specs.LookOf.{scanned_token, scanned_minus, sign_of, further_sign_of}
use Rattle.core_reader.specs.TokensOf.{every, kind_of, of_one, sign, further_sign, Longest, IsSeparator, NothingBegins}
use Rattle.core_reader.proofs.Runs.{len_run, within_run, longest_run, longest_two, longest_one, longest_arrow}

abbrev pub StandsAtFront : Dialect → List ℕ → Found → Type 0
StandsAtFront d bytes (Gap n) = IsSeparator n bytes × (0 < n) × (n ≤ length bytes)
StandsAtFront d bytes (Token n kind) = Longest d n bytes kind × (0 < n)
StandsAtFront d bytes Bad = NothingBegins d bytes
StandsAtFront d bytes End = bytes ≡ []

true_false : (A : Type 0) (b : Bool) → b ≡ true → b ≡ false → A
true_false A true e f = absurd cc
true_false A false e f = absurd cc

not_minus : (b : ℕ) → eqb b 45 ≡ false → b ≡ 45 → ⊥
not_minus b e h = true_false ⊥ (eqb b 45) (rw h refl) e

no_gap_at : (b : ℕ) (rest : List ℕ) → is_space b ≡ false → eqb b 45 ≡ false → (n : ℕ)
    → IsSeparator n (b ∷ rest) → ⊥
no_gap_at b rest space minus n (inl h) = true_false ⊥ (is_space b) h.0 space
no_gap_at b rest space minus n (inr h) = not_minus b minus h.1

minus_no_gap : (bs : List ℕ) → ((rest : List ℕ) → bs ≡ 45 ∷ rest → ⊥) → (n : ℕ)
    → IsSeparator n (45 ∷ bs) → ⊥
minus_no_gap bs f n (inl h) = absurd (true_false ⊥ (is_space 45) h.0 refl)
minus_no_gap bs f n (inr h) = f h.0 h.2

head_of : (c : ℕ) (tail rest : List ℕ) → c ∷ tail ≡ 45 ∷ rest → c ≡ 45
head_of c tail rest e = cc

module _ (d : Dialect) where
  none_one : (b : ℕ) (rest : List ℕ) → ((bs : List ℕ) → kind_of d (b ∷ bs) ≡ None) → (n : ℕ)
      → kind_of d (take n (b ∷ rest)) ≡ None
  none_one b rest h zero = refl
  none_one b rest h (suc n) = h (take n rest)

  no_sign : (b : ℕ) (rest : List ℕ) → ((bs : List ℕ) → kind_of d (b ∷ bs) ≡ of_one d b bs)
      → sign d b ≡ None → (n : ℕ) → kind_of d (take n (b ∷ rest)) ≡ None
  no_sign b rest shape e zero = refl
  no_sign b rest shape e (suc zero) = shape [] ∙ e
  no_sign b [] shape e (suc (suc n)) = shape [] ∙ e
  no_sign b (c ∷ rest) shape e (suc (suc n)) = shape (c ∷ take n rest)

  -- a byte that is a sign, and one that begins nothing
  one_sign : (b : ℕ) (rest : List ℕ) (kind : TokenKind)
      → ((bs : List ℕ) → kind_of d (b ∷ bs) ≡ of_one d b bs) → sign d b ≡ Some kind
      → StandsAtFront d (b ∷ rest) (Token 1 kind)
  one_sign b rest kind shape e =
      (longest_one b rest kind (shape [] ∙ e) (λ c bs. shape (c ∷ bs)), omega arith)

  nothing : (b : ℕ) (rest : List ℕ) → is_space b ≡ false → eqb b 45 ≡ false
      → ((bs : List ℕ) → kind_of d (b ∷ bs) ≡ of_one d b bs) → sign d b ≡ None
      → StandsAtFront d (b ∷ rest) Bad
  nothing b rest space minus shape e = record {
    no_gap = no_gap_at b rest space minus;
    no_token = no_sign b rest shape e;
    not_end
        = λ e. cc;
  }

lambda_signs : (b : ℕ) (rest : List ℕ) (s : Bool) → is_space b ≡ false → eqb b 45 ≡ false
    → ((bs : List ℕ) → kind_of dialect.Lambdas (b ∷ bs) ≡ of_one dialect.Lambdas b bs)
    → sign dialect.Lambdas b ≡ cond s (Some (Sign Backslash)) None
    → StandsAtFront dialect.Lambdas (b ∷ rest) (cond s (Token 1 (Sign Backslash)) Bad)
lambda_signs b rest true space minus shape e = one_sign dialect.Lambdas b rest (Sign Backslash)
    shape e
lambda_signs b rest false space minus shape e = nothing dialect.Lambdas b rest space minus shape e

type_signs : (b : ℕ) (rest : List ℕ) (s1 s2 : Bool) → is_space b ≡ false → eqb b 45 ≡ false
    → ((bs : List ℕ) → kind_of dialect.Types (b ∷ bs) ≡ of_one dialect.Types b bs)
    → sign dialect.Types b ≡ cond s1 (Some (Sign Bar)) (cond s2 (Some (Sign Colon)) None)
    → StandsAtFront dialect.Types (b ∷ rest)
    (cond s1 (Token 1 (Sign Bar)) (cond s2 (Token 1 (Sign Colon)) Bad))
type_signs b rest true s2 space minus shape e = one_sign dialect.Types b rest (Sign Bar) shape e
type_signs b rest false true space minus shape e = one_sign dialect.Types b rest (Sign Colon) shape
    e
type_signs b rest false false space minus shape e = nothing dialect.Types b rest space minus shape e

further_signs : (d : Dialect) (b : ℕ) (rest : List ℕ) → is_space b ≡ false → eqb b 45 ≡ false
    → ((bs : List ℕ) → kind_of d (b ∷ bs) ≡ of_one d b bs) → sign d b ≡ further_sign d b
    → StandsAtFront d (b ∷ rest) (further_sign_of d b)
further_signs dialect.Core b rest space minus shape e
    = nothing dialect.Core b rest space minus shape e
further_signs dialect.Modules b rest space minus shape e
    = nothing dialect.Modules b rest space minus shape e
further_signs dialect.Lambdas b rest space minus shape e
    = lambda_signs b rest (eqb b 92) space minus shape e
further_signs dialect.Types b rest space minus shape e
    = type_signs b rest (eqb b 124) (eqb b 58) space minus shape e

module _ (d : Dialect) where
  signs_by : (b : ℕ) (rest : List ℕ) (s1 s2 s3 s4 s5 s6 : Bool) → is_space b ≡ false
      → eqb b 45 ≡ false → ((bs : List ℕ) → kind_of d (b ∷ bs) ≡ of_one d b bs)
      → eqb b 59 ≡ s1 → eqb b 61 ≡ s2 → eqb b 123 ≡ s3 → eqb b 125 ≡ s4 → eqb b 40 ≡ s5
      → eqb b 41 ≡ s6
      → StandsAtFront d (b ∷ rest)
      (cond s1 (Token 1 (Sign Semicolon))
      (cond s2 (Token 1 (Sign Equals))
      (cond s3 (Token 1 (Sign OpenBrace))
      (cond s4 (Token 1 (Sign CloseBrace))
      (cond s5 (Token 1 (Sign Open)) (cond s6 (Token 1 (Sign Close)) (further_sign_of d b)))))))
  signs_by b rest true s2 s3 s4 s5 s6 space minus shape e1 e2 e3 e4 e5 e6
      = one_sign d b rest (Sign Semicolon) shape (rw e1 refl)
  signs_by b rest false true s3 s4 s5 s6 space minus shape e1 e2 e3 e4 e5 e6
      = one_sign d b rest (Sign Equals) shape (rw (e1, e2) refl)
  signs_by b rest false false true s4 s5 s6 space minus shape e1 e2 e3 e4 e5 e6
      = one_sign d b rest (Sign OpenBrace) shape (rw (e1, e2, e3) refl)
  signs_by b rest false false false true s5 s6 space minus shape e1 e2 e3 e4 e5 e6
      = one_sign d b rest (Sign CloseBrace) shape (rw (e1, e2, e3, e4) refl)
  signs_by b rest false false false false true s6 space minus shape e1 e2 e3 e4 e5 e6
      = one_sign d b rest (Sign Open) shape (rw (e1, e2, e3, e4, e5) refl)
  signs_by b rest false false false false false true space minus shape e1 e2 e3 e4 e5 e6
      = one_sign d b rest (Sign Close) shape (rw (e1, e2, e3, e4, e5, e6) refl)
  signs_by b rest false false false false false false space minus shape e1 e2 e3 e4 e5 e6
      = further_signs d b rest space minus shape (rw (e1, e2, e3, e4, e5, e6) refl)

  -- a byte that begins nothing longer
  signs : (b : ℕ) (rest : List ℕ) → is_space b ≡ false → eqb b 45 ≡ false
      → ((bs : List ℕ) → kind_of d (b ∷ bs) ≡ of_one d b bs)
      → StandsAtFront d (b ∷ rest) (sign_of d b)
  signs b rest space minus shape = signs_by b rest (eqb b 59) (eqb b 61) (eqb b 123) (eqb b 125)
      (eqb b 40) (eqb b 41) space minus shape refl refl refl refl refl refl

  minus_end : (n : ℕ) → kind_of d (take n (45 ∷ [])) ≡ None
  minus_end zero = refl
  minus_end (suc zero) = refl
  minus_end (suc (suc n)) = refl

  minus_no_token : (c : ℕ) (tail : List ℕ) → eqb c 62 ≡ false → is_digit c ≡ false → (n : ℕ)
      → kind_of d (take n (45 ∷ c ∷ tail)) ≡ None
  minus_no_token c tail e f zero = refl
  minus_no_token c tail e f (suc zero) = refl
  minus_no_token c tail e f (suc (suc n)) = rw (e, f) refl

  minus_by : (c : ℕ) (tail : List ℕ) (s1 s2 s3 : Bool) → eqb c 45 ≡ s1 → eqb c 62 ≡ s2
      → is_digit c ≡ s3
      → StandsAtFront d (45 ∷ c ∷ tail)
      (cond s1 (Gap (2 + length (take_while is_in_line tail)))
      (cond s2 (Token 2 (Sign Arrow))
      (cond s3 (Token (2 + length (take_while is_digit tail)) Digits) Bad)))
  minus_by c tail true s2 s3 e1 e2 e3 = (
    inr (tail, refl, ap (λ x. x ∷ tail) (eqb-true c 45 e1), refl),
    omega arith,
    omega (arith, len_run is_in_line tail, within_run is_in_line tail),
  )
  minus_by c tail false true s3 e1 e2 e3 =
      (longest_arrow 45 c tail (Sign Arrow) (rw e2 refl) (λ e bs. rw e2 refl), omega arith)
  minus_by c tail false false true e1 e2 e3 =
      (longest_two 45 c tail is_digit Digits (λ bs. rw (e2, e3) refl), omega arith)
  minus_by c tail false false false e1 e2 e3 =
      record {
        no_gap = minus_no_gap (c ∷ tail) (λ rest e. not_minus c e1 (head_of c tail rest e));
        no_token = minus_no_token c tail e2 e3;
        not_end = λ e. cc;
      }

  minus45 : (rest : List ℕ) → StandsAtFront d (45 ∷ rest) (scanned_minus rest)
  minus45 [] = record
      { no_gap = minus_no_gap [] (λ rest e. cc); no_token = minus_end; not_end = λ e. cc }
  minus45 (c ∷ tail) = minus_by c tail (eqb c 45) (eqb c 62) (is_digit c) refl refl refl

  right_minus : (b : ℕ) (rest : List ℕ) → b ≡ 45 → StandsAtFront d (b ∷ rest) (scanned_minus rest)
  right_minus b rest e = subst (λ x. StandsAtFront d (x ∷ rest) (scanned_minus rest)) (sym e)
      (minus45 rest)

  shape_lower : (b : ℕ) → is_lower b ≡ true → (bs : List ℕ)
      → kind_of d (b ∷ bs) ≡ cond (every is_inner bs) (Some Lower) None
  shape_lower b e bs = rw e refl

  shape_upper : (b : ℕ) → is_lower b ≡ false → is_upper b ≡ true → (bs : List ℕ)
      → kind_of d (b ∷ bs) ≡ cond (every is_inner bs) (Some Upper) None
  shape_upper b e f bs = rw (e, f) refl

  shape_digit : (b : ℕ) → is_lower b ≡ false → is_upper b ≡ false → is_digit b ≡ true
      → (bs : List ℕ) → kind_of d (b ∷ bs) ≡ cond (every is_digit bs) (Some Digits) None
  shape_digit b e f g bs = rw (e, f, g) refl

  shape_sign : (b : ℕ) → is_lower b ≡ false → is_upper b ≡ false → is_digit b ≡ false
      → eqb b 45 ≡ false → (bs : List ℕ) → kind_of d (b ∷ bs) ≡ of_one d b bs
  shape_sign b e f g h bs = rw (e, f, g, h) refl

  chosen : (b : ℕ) (rest : List ℕ) (s lo up di mi : Bool) → is_space b ≡ s → is_lower b ≡ lo
      → is_upper b ≡ up → is_digit b ≡ di → eqb b 45 ≡ mi
      → StandsAtFront d (b ∷ rest)
      (cond s (Gap 1)
      (cond lo (Token (1 + length (take_while is_inner rest)) Lower)
      (cond up (Token (1 + length (take_while is_inner rest)) Upper)
      (cond di (Token (1 + length (take_while is_digit rest)) Digits)
      (cond mi (scanned_minus rest) (sign_of d b))))))
  chosen b rest true lo up di mi es el eu ed em = (inl (es, refl), omega arith, omega arith)
  chosen b rest false true up di mi es el eu ed em =
      (longest_run b rest is_inner Lower (shape_lower b el), omega arith)
  chosen b rest false false true di mi es el eu ed em
      = (longest_run b rest is_inner Upper (shape_upper b el eu), omega arith)
  chosen b rest false false false true mi es el eu ed em
      = (longest_run b rest is_digit Digits (shape_digit b el eu ed), omega arith)
  chosen b rest false false false false true es el eu ed em = right_minus b rest (eqb-true b 45 em)
  chosen b rest false false false false false es el eu ed em
      = signs b rest es em (shape_sign b el eu ed em)

  pub front_stands : (bytes : List ℕ) → StandsAtFront d bytes (scanned_token d bytes)
  front_stands [] = refl
  front_stands (b ∷ rest) = chosen b rest (is_space b) (is_lower b) (is_upper b) (is_digit b)
      (eqb b 45) refl refl refl refl refl
