-- Bytes that are read as tokens wherever they stand, with what those tokens mean.
--
-- The lemma on a piece of text says: wherever the piece stands, before whatever ends its last
-- token, its bytes are read as tokens with this meaning. For each production of the grammar the
-- lemma on the whole follows from those on its parts.
use Rattle.std.proofs.Common.{◌≡◌, ℕ, suc, ◌+◌, ◌-◌, ◌<◌, ◌≤◌, Bool, true, false, eqb, List, [], ◌∷◌, ◌++◌, length, take, drop, map, Some, None, refl, sym, ap, subst, ◌∙◌, arith, inl, append_assoc, length-append}
use Rattle.std.specs.Prelude.{codes, ◌||◌, slice_get}
use Rattle.std.proofs.Math.Seq.{take-append_seam, take-append-add}
use Rattle.seq.proofs.Truth.{and_not_right}
use Rattle.seq.proofs.Lists.{drop_before}
use Rattle.core_reader.specs.declared.dialect.Dialect.TheVariants as dialect
use Rattle.core_reader.specs.declared.look.TokenKind.{TokenKind}
use Rattle.core_reader.specs.declared.look.TokenKind.TheVariants.{Lower, Upper, Digits, Sign}
use Rattle.core_reader.specs.declared.look.Sign.TheVariants as signs
use Rattle.core_reader.specs.declared.syntax.NameId.{NameId}
use Rattle.core_reader.specs.declared.token.Token.{Token}
use Rattle.core_reader.specs.declared.token.Token.TheVariants as word
use Rattle.core_reader.specs.declared.token.Lexeme.{Lexeme}
use Rattle.core_reader.specs.Bytes.{is_space, is_lower, is_upper, is_digit, is_inner}
use Rattle.core_reader.specs.Grammar.{lexeme, name_id, IsSign}
use Rattle.core_reader.specs.Tokens.{every, kind_of, after_minus, of_one, arrow, Longest, Piece, Reads, Stops, Passes, Takes}
use Rattle.core_reader.specs.Words.{said, said_by, keyword_or_name, number_in, written_number, IsInRange}
use Rattle.core_reader.specs.Lexed.{AreInRange}
use Rattle.core_reader.specs.Readable.{IsName, IsConstructor}
use Rattle.core_reader.proofs.Naming.{Texts, EachHeld}
use Rattle.core_reader.proofs.Readability.{at_number}
use Rattle.core_reader.proofs.Runs.{longest_one}
use Rattle.core_reader.proofs.Unique.{join}
use Rattle.core_reader.proofs.Explains.{map_parts}

-- ---- the longest token at the front

-- A token in front of these bytes ends where they begin.
abbrev pub Apart : List ℕ → Type 0
Apart [] = Unit {0}
Apart (b ∷ bs) = is_inner b ≡ false

pub apart_more : (bytes rest : List ℕ) → Apart bytes → Apart rest → Apart (bytes ++ rest)
apart_more [] rest h g = g
apart_more (b ∷ bs) rest h g = h

no_digit_by : (lower upper digit quote : Bool) → (lower || upper || digit || quote) ≡ false
    → digit ≡ false
no_digit_by true upper digit quote e = absurd cc
no_digit_by false true digit quote e = absurd cc
no_digit_by false false true quote e = absurd cc
no_digit_by false false false quote e = refl

no_digit : (b : ℕ) → is_inner b ≡ false → is_digit b ≡ false
no_digit b e = no_digit_by (is_lower b) (is_upper b) (is_digit b) (eqb b 39) e

every_stops : (p : ℕ → Bool) (bs : List ℕ) (r : ℕ) (rest : List ℕ) → p r ≡ false
    → every p (bs ++ (r ∷ rest)) ≡ false
every_stops p [] r rest e = rw e refl
every_stops p (b ∷ bs) r rest e = and_not_right (p b) (every p (bs ++ (r ∷ rest)))
    (every_stops p bs r rest e)

arrow_past : (bs : List ℕ) (r : ℕ) (rest : List ℕ) → arrow (bs ++ (r ∷ rest)) ≡ None
arrow_past [] r rest = refl
arrow_past (b ∷ bs) r rest = refl

one_past : (b : ℕ) (bs : List ℕ) (r : ℕ) (rest : List ℕ) → of_one b (bs ++ (r ∷ rest)) ≡ None
one_past b [] r rest = refl
one_past b (c ∷ bs) r rest = refl

minus_past : (bs : List ℕ) (k : TokenKind) (r : ℕ) (rest : List ℕ) → after_minus bs ≡ Some k
    → is_inner r ≡ false → after_minus (bs ++ (r ∷ rest)) ≡ None
minus_past [] k r rest e h = absurd cc
minus_past (c ∷ bs) k r rest e h = by (eqb c 62) refl
  where
    by : (greater : Bool) → eqb c 62 ≡ greater → after_minus (c ∷ (bs ++ (r ∷ rest))) ≡ None
    by true g = rw (g, arrow_past bs r rest) refl
    by false g =
        rw (
          g,
          and_not_right (is_digit c) (every is_digit (bs ++ (r ∷ rest)))
              (every_stops is_digit bs r rest (no_digit r h)),
        ) refl

past : (w : List ℕ) (k : TokenKind) (r : ℕ) (rest : List ℕ) → kind_of w ≡ Some k
    → is_inner r ≡ false → kind_of (w ++ (r ∷ rest)) ≡ None
past [] k r rest e h = absurd cc
past (b ∷ bs) k r rest e h = by (is_lower b) (is_upper b) (is_digit b) (eqb b 45) refl refl refl
    refl
  where
    by : (lower upper digit minus : Bool) → is_lower b ≡ lower → is_upper b ≡ upper
        → is_digit b ≡ digit → eqb b 45 ≡ minus → kind_of (b ∷ (bs ++ (r ∷ rest))) ≡ None
    by true upper digit minus e1 e2 e3 e4 = rw (e1, every_stops is_inner bs r rest h) refl
    by false true digit minus e1 e2 e3 e4 = rw (e1, e2, every_stops is_inner bs r rest h) refl
    by false false true minus e1 e2 e3 e4 =
        rw (e1, e2, e3, every_stops is_digit bs r rest (no_digit r h)) refl
    by false false false true e1 e2 e3 e4 =
        let f : after_minus bs ≡ Some k = rw (e1, e2, e3, e4) at e in
        rw (e1, e2, e3, e4) (minus_past bs k r rest f h)
    by false false false false e1 e2 e3 e4 = rw (e1, e2, e3, e4) (one_past b bs r rest)

no_longer : (w : List ℕ) (k : TokenKind) (rest : List ℕ) → kind_of w ≡ Some k → Apart rest → (m : ℕ)
    → length w < m → m ≤ length (w ++ rest) → kind_of (take m (w ++ rest)) ≡ None
no_longer w k [] e h m lt le = absurd (omega (arith, length-append w []))
no_longer w k (r ∷ rest) e h m lt le =
    let j = m - suc (length w) in
    let split : m ≡ length w + suc j = omega arith in
    ap (λ n. kind_of (take n (w ++ (r ∷ rest)))) split ∙ ap kind_of
    (take-append-add w (r ∷ rest) (suc j)) ∙ past w k r (take j rest) e h

longest : (w : List ℕ) (k : TokenKind) (rest : List ℕ) → kind_of w ≡ Some k → Apart rest
    → Longest (length w) (w ++ rest) k
longest w k rest e h = record {
  within = omega (arith, length-append w rest);
  is_token = ap kind_of (take-append_seam w rest) ∙ e;
  no_longer = no_longer w k rest e h;
}

one_token : (w : List ℕ) (k : TokenKind) (rest : List ℕ) (at : ℕ) → kind_of w ≡ Some k → Apart rest
    → Reads at (w ++ rest) (record { bytes = w; at = at } ∷ []) (at + length w) rest
one_token w k rest at e h =
    let after = drop (length w) (w ++ rest) in
    let r = Takes at (length w) (w ++ rest) k [] (at + length w) after (longest w k rest e h)
    (Stops (at + length w) after) in
    subst (λ v. Reads at (w ++ rest) (record { bytes = w; at = at } ∷ []) (at + length w) v)
    (drop_before w rest)
    (subst (λ v. Reads at (w ++ rest) (record { bytes = v; at = at } ∷ []) (at + length w) after)
    (take-append_seam w rest) r)

-- ---- bytes with the meaning of their tokens

-- what tokens mean, where names have their numbers
abbrev pub Meaning : Type 1
Meaning = Texts → List Lexeme → Type 0

-- At this place, in front of whatever keeps tokens apart, the bytes are read as tokens that have
-- the meaning.
pub record BackAt (P : Meaning) (text : List ℕ) (at : ℕ) : Type 0 where
  pub pieces : List Piece
  pub reads : (rest : List ℕ) → Apart rest → Reads at (text ++ rest) pieces (at + length text) rest
  pub small : AreInRange pieces
  pub means : (names : Texts) → EachHeld names pieces → P names (map (said names) pieces)

abbrev pub Back : Meaning → List ℕ → Type 0
Back P text = (at : ℕ) → BackAt P text at

-- some tokens, and others behind them
pub record Both (P Q : Meaning) (names : Texts) (ts : List Lexeme) : Type 0 where
  pub front : List Lexeme
  pub behind : List Lexeme
  pub first : P names front
  pub second : Q names behind
  pub whole : ts ≡ front ++ behind

-- a name, which has a number among the names
pub record Named (token : NameId → Token) (w : List ℕ) (names : Texts) (ts : List Lexeme)
    : Type 0 where
  pub at : ℕ
  pub number : slice_get names (number_in names w) ≡ Some w
  pub whole : ts ≡ lexeme at (token (name_id (number_in names w))) ∷ []

abbrev pub Nothing : Meaning
Nothing names ts = ts ≡ []

abbrev pub OneToken : Token → Meaning
OneToken token names ts = IsSign token ts

pub as_text : (P : Meaning) (text same : List ℕ) → text ≡ same → Back P text → Back P same
as_text P text same e b at = subst (λ w. BackAt P w at) e (b at)

pub back_as : (P Q : Meaning) (text : List ℕ) →
    ((names : Texts) (ts : List Lexeme) → P names ts → Q names ts) → Back P text → Back Q text
back_as P Q text f b at = let r = b at in record {
  pieces = r.pieces;
  reads = r.reads;
  small = r.small;
  means
      = λ names h. f names (map (said names) r.pieces) (r.means names h);
}

pub nothing : Back Nothing []
nothing at = record {
  pieces = [];
  reads = λ rest h. subst (λ e. Reads at rest [] e rest)
      (let f : at ≡ at + 0 = omega arith in f) (Stops at rest);
  small = tt;
  means = λ names h. refl;
}

pub token : (w : List ℕ) (k : TokenKind) (t : Token) → kind_of w ≡ Some k
    → ((names : Texts) → said_by names w (Some k) ≡ t)
    → (kind_of w ≡ Some Digits → IsInRange (written_number w)) → Back (OneToken t) w
token w k t e says small at = record {
  pieces = record { bytes = w; at = at } ∷ [];
  reads = λ rest h. one_token w k rest at e h;
  small = (small, tt);
  means = λ names h. (at, λ i. lexeme at ((ap (said_by names w) e ∙ says names) i) ∷ []);
}

pub semicolon : Back (OneToken word.Semicolon) (codes ";")
semicolon = token (codes ";") (Sign signs.Semicolon) word.Semicolon refl (λ names. refl)
    (λ e. absurd cc)

pub equals : Back (OneToken word.Equals) (codes "=")
equals = token (codes "=") (Sign signs.Equals) word.Equals refl (λ names. refl) (λ e. absurd cc)

pub name : (w : List ℕ) → IsName w → Back (Named word.Name w) w
name w e at = record {
  pieces = record { bytes = w; at = at } ∷ [];
  reads = λ rest h. one_token w Lower rest at e.0 h;
  small = ((λ d. absurd cc), tt);
  means = λ names h. record {
    at = at;
    number = at_number names w (h.0 (rw (e.0, e.1) refl));
    whole = λ i. lexeme at ((ap (said_by names w) e.0 ∙ ap (keyword_or_name names w) e.1) i) ∷ [];
  };
}

pub constructor : (w : List ℕ) → IsConstructor w → Back (Named word.Con w) w
constructor w e at = record {
  pieces = record { bytes = w; at = at } ∷ [];
  reads = λ rest h. one_token w Upper rest at e h;
  small = ((λ d. absurd cc), tt);
  means = λ names h. record {
    at = at;
    number = at_number names w (h.0 (rw e refl));
    whole = λ i. lexeme at (ap (said_by names w) e i) ∷ [];
  };
}

pub space : (P : Meaning) (b : ℕ) (text : List ℕ) → is_space b ≡ true → Back P text
    → Back P (b ∷ text)
space P b text e back at =
    let r = back (at + 1) in
    record {
      pieces = r.pieces;
      reads = λ rest h.
          let end : at + 1 + length text ≡ at + suc (length text) = omega arith in
          Passes at 1 (b ∷ (text ++ rest)) r.pieces (at + suc (length text)) rest (inl (e, refl))
          (subst (λ v. Reads (at + 1) (text ++ rest) r.pieces v rest) end (r.reads rest h));
      small = r.small;
      means = r.means;
    }

held_front : (names : Texts) (us vs : List Piece) → EachHeld names (us ++ vs) → EachHeld names us
held_front names [] vs h = tt
held_front names (u ∷ us) vs h = (h.0, held_front names us vs h.1)

held_behind : (names : Texts) (us vs : List Piece) → EachHeld names (us ++ vs) → EachHeld names vs
held_behind names [] vs h = h
held_behind names (u ∷ us) vs h = held_behind names us vs h.1

small_both : (us vs : List Piece) → AreInRange us → AreInRange vs → AreInRange (us ++ vs)
small_both [] vs h g = g
small_both (u ∷ us) vs h g = (h.0, small_both us vs h.1 g)

both_mean : (P Q : Meaning) (names : Texts) (us vs : List Piece)
    → (EachHeld names us → P names (map (said names) us))
    → (EachHeld names vs → Q names (map (said names) vs)) → EachHeld names (us ++ vs)
    → Both P Q names (map (said names) (us ++ vs))
both_mean P Q names us vs p q h = record {
  front = map (said names) us;
  behind = map (said names) vs;
  first = p (held_front names us vs h);
  second = q (held_behind names us vs h);
  whole = map_parts dialect.Core names us vs;
}

pub both : (P Q : Meaning) (x y : List ℕ) → Apart y → Back P x → Back Q y → Back (Both P Q) (x ++ y)
both P Q x y apart p q at =
    let a = p at in
    let b = q (at + length x) in
    record {
      pieces = a.pieces ++ b.pieces;
      reads = λ rest h.
          let end : at + length x + length y ≡ at + length (x ++ y)
          = omega (arith, length-append x y) in
          let r = join (a.reads (y ++ rest) (apart_more y rest apart h)) (b.reads rest h) in
          subst (λ v. Reads at v (a.pieces ++ b.pieces) (at + length (x ++ y)) rest)
          (sym (append_assoc x y rest))
          (subst (λ v. Reads at (x ++ (y ++ rest)) (a.pieces ++ b.pieces) v rest) end r);
      small = small_both a.pieces b.pieces a.small b.small;
      means = λ names h. both_mean P Q names a.pieces b.pieces (a.means names) (b.means names) h;
    }

-- Behind `(` any byte may stand.
pub bracket : (Q : Meaning) (y : List ℕ) → Back Q y → Back (Both (OneToken word.Open) Q) (40 ∷ y)
bracket Q y q at =
    let b = q (at + 1) in
    let piece : Piece = record { bytes = 40 ∷ []; at = at } in
    record {
      pieces = piece ∷ b.pieces;
      reads = λ rest h.
          let end : at + 1 + length y ≡ at + suc (length y) = omega arith in
          Takes at 1 (40 ∷ (y ++ rest)) (Sign signs.Open) b.pieces (at + suc (length y)) rest
          (longest_one 40 (y ++ rest) (Sign signs.Open) refl (λ c bs. refl))
          (subst (λ v. Reads (at + 1) (y ++ rest) b.pieces v rest) end (b.reads rest h));
      small = ((λ d. absurd cc), b.small);
      means = λ names h. record {
        front = lexeme at word.Open ∷ [];
        behind = map (said names) b.pieces;
        first = (at, refl);
        second = b.means names h.1;
        whole = refl;
      };
    }
