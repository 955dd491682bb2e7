-- The first name of a text that begins with `lift'` is the first token that says such a name.
use Rattle.std.proofs.Common.{◌≡◌, ℕ, zero, suc, ◌≤◌, Bool, true, false, cond, List, [], ◌∷◌, ◌++◌, length, map, take, drop, Option, Some, None, refl, sym, ap, subst, ◌∙◌, arith}
use Rattle.std.specs.Prelude.{codes, is_none, slice_get}
use Rattle.std.proofs.lemmas.Bool.Decides.{Decides-eqb}
use Rattle.std.proofs.lemmas.Slice.Eq.{starts_is}
use Rattle.seq.specs.Lists.{or_empty}
use Rattle.core_reader.specs.declared.dialect.Dialect.TheVariants.{Lambdas}
use Rattle.core_reader.specs.declared.look.Sign as sign
use Rattle.core_reader.specs.declared.look.Sign.TheVariants as signs
use Rattle.core_reader.specs.declared.look.TokenKind.{TokenKind}
use Rattle.core_reader.specs.declared.look.TokenKind.TheVariants.{Lower, Upper, Digits, Sign}
use Rattle.core_reader.specs.declared.token.Token.{Token}
use Rattle.core_reader.specs.declared.token.Token.TheVariants as word
use Rattle.core_reader.specs.declared.token.Lexeme.{Lexeme}
use Rattle.core_reader.specs.TokensOf.{Piece, Reads, Stops, Passes, Takes, IsTokens, kind_of}
use Rattle.core_reader.specs.WordsOf.{said, said_by, keyword_or_name, keyword_of, sign_token}
use Rattle.core_reader.specs.NamesOf.{is_numbered_by}
use Rattle.core_reader.specs.LexedOf.{StopsAt, AtEnd, AtBad, AtLarge, IsLexed}
use Rattle.core_reader.proofs.NamingOf.{Texts, has, EachHeld, each_held}
use Rattle.core_reader.proofs.Proper.{IsKeyword, keyword_is_word}
use Rattle.core_reader.proofs.OnlyOne.{one_tokens}
use Rattle.core_reader.proofs.Readability.{at_number}
use Rattle.lambda_reader.specs.Reserved.{IsReserved, HasReserved, Stands, IsFirstReserved}
use Rattle.lambda_reader.specs.Reserving.{is_reserved, is_reserved_token, first_reserved}

-- ---- what one token says

by_bytes : (w : List ℕ) → kind_of Lambdas w ≡ Some Lower → is_reserved w ≡ true → IsReserved w
by_bytes w k e = (
  drop (length (codes "lift'")) w,
  k,
  (starts_is Decides-eqb w (codes "lift'") (is_reserved w) refl).0 e,
)

sign_not : (names : Texts) (s : sign.Sign) → is_reserved_token names (sign_token s) ≡ true → ⊥
sign_not names signs.Semicolon e = cc
sign_not names signs.Equals e = cc
sign_not names signs.OpenBrace e = cc
sign_not names signs.CloseBrace e = cc
sign_not names signs.Open e = cc
sign_not names signs.Close e = cc
sign_not names signs.Arrow e = cc
sign_not names signs.Backslash e = cc
sign_not names signs.Bar e = cc
sign_not names signs.Colon e = cc

by_letters : (names : Texts) (w : List ℕ) (o : Option Token) → IsKeyword o
    → kind_of Lambdas w ≡ Some Lower → (is_none o ≡ true → has names w ≡ true)
    → is_reserved_token names (keyword_or_name names w o) ≡ true → IsReserved w
by_letters names w None k l h e = by_bytes w l
    (sym (ap (λ v. is_reserved (or_empty v)) (at_number names w (h refl))) ∙ e)
by_letters names w (Some (word.Name n)) k l h e = absurd k
by_letters names w (Some token) k l h e = absurd cc

by_kind : (names : Texts) (w : List ℕ) (o : Option TokenKind) → kind_of Lambdas w ≡ o
    → (is_numbered_by Lambdas w o ≡ true → has names w ≡ true)
    → is_reserved_token names (said_by Lambdas names w o) ≡ true → IsReserved w
by_kind names w None k h e = absurd cc
by_kind names w (Some Lower) k h e = by_letters names w (keyword_of Lambdas w)
    (keyword_is_word Lambdas w) k h e
by_kind names w (Some Upper) k h e = absurd cc
by_kind names w (Some Digits) k h e = absurd cc
by_kind names w (Some (Sign s)) k h e = absurd (sign_not names s e)

no_word : (rest : List ℕ) → keyword_of Lambdas (codes "lift'" ++ rest) ≡ None
no_word rest = refl

-- and the other way round
says : (names : Texts) (w : List ℕ) → IsReserved w →
    (is_numbered_by Lambdas w (kind_of Lambdas w) ≡ true → has names w ≡ true)
    → is_reserved_token names (said_by Lambdas names w (kind_of Lambdas w)) ≡ true
says names w r held =
    let no_keyword : keyword_of Lambdas w ≡ None = ap (keyword_of Lambdas) r.2 ∙ no_word r.0 in
    let known : has names w ≡ true = held
    (ap (is_numbered_by Lambdas w) r.1 ∙ ap is_none no_keyword) in
    ap (λ k. is_reserved_token names (said_by Lambdas names w k)) r.1
    ∙ ap (λ o. is_reserved_token names (keyword_or_name names w o)) no_keyword
    ∙ ap (λ v. is_reserved (or_empty v)) (at_number names w known)
    ∙ (starts_is Decides-eqb w (codes "lift'") (is_reserved w) refl).1 r.0 r.2

-- ---- the first of the tokens

abbrev IsFirst : List Piece → Option ℕ → Type 0
IsFirst ps None = (i : ℕ) (p : Piece) → slice_get ps i ≡ Some p → IsReserved p.bytes → ⊥
IsFirst ps (Some first) =
    ((i : ℕ) × (p : Piece) × (slice_get ps i ≡ Some p) × IsReserved p.bytes × (p.at ≡ first))
    × ((i : ℕ) (p : Piece) → slice_get ps i ≡ Some p → IsReserved p.bytes → first ≤ p.at)

behind : {at end : ℕ} {bytes rest : List ℕ} {pieces : List Piece}
    → Reads Lambdas at bytes pieces end rest → (i : ℕ) (p : Piece) → slice_get pieces i ≡ Some p
    → at ≤ p.at
behind (Stops at rest) i p e = absurd (none i e)
  where
    none : (i : ℕ) → slice_get [] i ≡ Some p → ⊥
    none i e = cc
behind (Passes at n bytes pieces end rest h r) i p e = let f = behind r i p e in omega arith
behind (Takes at n bytes k pieces end rest h r) zero p e =
    let q : Piece = record { bytes = take n bytes; at = at } in
    let same : q ≡ p = cc in
    let placed : at ≡ p.at = ap (λ (q : Piece). q.at) same in
    omega (arith, placed)
behind (Takes at n bytes k pieces end rest h r) (suc i) p e = let f = behind r i p e in omega arith

one_more : (q : Piece) (ps : List Piece) (o : Option ℕ) → (IsReserved q.bytes → ⊥) → IsFirst ps o
    → IsFirst (q ∷ ps) o
one_more q ps None n f = each
  where
    each : (i : ℕ) (p : Piece) → slice_get (q ∷ ps) i ≡ Some p → IsReserved p.bytes → ⊥
    each zero p e r = let same : q ≡ p = cc in n
        (subst (λ (x : Piece). IsReserved x.bytes) (sym same) r)
    each (suc i) p e r = f i p e r
one_more q ps (Some first) n f = ((suc f.0.0, f.0.1, f.0.2, f.0.3, f.0.4), each)
  where
    each : (i : ℕ) (p : Piece) → slice_get (q ∷ ps) i ≡ Some p → IsReserved p.bytes → first ≤ p.at
    each zero p e r = let same : q ≡ p = cc in absurd
        (n (subst (λ (x : Piece). IsReserved x.bytes) (sym same) r))
    each (suc i) p e r = f.1 i p e r

abbrev FirstAmong : Texts → Lexeme → List Piece → Type 0
FirstAmong names last pieces = IsFirst pieces
    (first_reserved names (map (said Lambdas names) pieces ++ last ∷ []))

this_or : (names : Texts) (q : Piece) (ps : List Piece) (o : Option ℕ) (b : Bool)
    → is_reserved_token names (said Lambdas names q).token ≡ b
    → (is_numbered_by Lambdas q.bytes (kind_of Lambdas q.bytes) ≡ true → has names q.bytes ≡ true)
    → ((i : ℕ) (p : Piece) → slice_get (q ∷ ps) i ≡ Some p → q.at ≤ p.at) → IsFirst ps o
    → IsFirst (q ∷ ps) (cond b (Some q.at) o)
this_or names q ps o true e held after f = (
  (0, q, refl, by_kind names q.bytes (kind_of Lambdas q.bytes) refl held e, refl),
  λ i p g r. after i p g,
)
this_or names q ps o false e held after f = one_more q ps o
    (λ r. differ (sym (says names q.bytes r held) ∙ e)) f
  where
    differ : true ≡ false → ⊥
    differ g = cc

first_among : {at end : ℕ} {bytes rest : List ℕ} {pieces : List Piece} (names : Texts)
    (last : Lexeme) → is_reserved_token names last.token ≡ false
    → Reads Lambdas at bytes pieces end rest → EachHeld Lambdas names pieces
    → FirstAmong names last pieces
first_among names last other (Stops at rest) held = subst
    (λ b. IsFirst [] (cond b (Some last.at) None)) (sym other) none
  where
    none : (i : ℕ) (p : Piece) → slice_get [] i ≡ Some p → IsReserved p.bytes → ⊥
    none i p e r = cc
first_among names last other (Passes at n bytes pieces end rest h r) held
    = first_among names last other r held
first_among names last other (Takes at n bytes k pieces end rest h r) held =
    let q : Piece = record { bytes = take n bytes; at = at } in
    this_or names q pieces (first_reserved names (map (said Lambdas names) pieces ++ last ∷ []))
    (is_reserved_token names (said Lambdas names q).token) refl held.0
    (behind (Takes at n bytes k pieces end rest h r)) (first_among names last other r held.1)

-- ---- of a text

not_last : (names : Texts) (at : ℕ) (rest : List ℕ) (last : Lexeme) → StopsAt Lambdas at rest last
    → is_reserved_token names last.token ≡ false
not_last names at rest last (AtEnd e) = refl
not_last names at rest last (AtBad e) = refl
not_last names at rest last (AtLarge n l o) = refl

module _ (text : List ℕ) (ps : List Piece) (tokens : IsTokens Lambdas text ps) where
  each_of : (Q : ℕ → Type 0) →
      ((i : ℕ) (p : Piece) → slice_get ps i ≡ Some p → IsReserved p.bytes → Q p.at) → (at : ℕ)
      → HasReserved text at → Q at
  each_of Q f at (Stands {pieces = qs} {piece = p} i t e r)
      = f i p (subst (λ v. slice_get v i ≡ Some p) (one_tokens text qs ps t tokens) e) r

  of_text : (o : Option ℕ) → IsFirst ps o → IsFirstReserved text o
  of_text None f = each_of (λ at. ⊥) f
  of_text (Some first) f = (
    subst (HasReserved text) f.0.4 (Stands f.0.0 tokens f.0.2 f.0.3),
    each_of (λ at. first ≤ at) f.1,
  )

pub reserved_first : (text : List ℕ) (lexemes : List Lexeme) (names : Texts)
    (l : IsLexed Lambdas text lexemes names) → IsTokens Lambdas text l.pieces
    → IsFirstReserved text (first_reserved names lexemes)
reserved_first text lexemes names l tokens =
    let held = subst (λ v. EachHeld Lambdas v l.pieces) (sym l.named)
    (each_held Lambdas [] l.pieces) in
    let among = first_among names l.last (not_last names l.at l.rest l.last l.stop) l.reads held in
    of_text text l.pieces tokens (first_reserved names lexemes)
    (subst (λ v. IsFirst l.pieces (first_reserved names v)) (sym l.lexed) among)
