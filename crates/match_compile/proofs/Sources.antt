-- What the reader of equations answers, by the text alone.
use Rattle.std.proofs.Common.{◌≡◌, ℕ, ◌≤◌, Bool, true, false, List, [], ◌∷◌, length, map, take, Ok, Err, refl, sym, ap, subst, ◌∙◌, arith, Option, Some, None, ◌⊎◌, inl, inr}
use Rattle.std.specs.Prelude.{nat_eq, is_none, if◌then◌else◌}
use Rattle.seq.specs.Lists.{In, here, there, or_empty}
use Rattle.seq.proofs.Member.{none_in, one_in, in_left, in_split, when_in, in_when, in_flat, flat_in, in_map, map_in}
use Rattle.seq.proofs.Truth.{and_left}
use Rattle.seq.proofs.Order.{eq_from}
use Rattle.core_reader.specs.declared.dialect.Dialect.TheVariants.{Core}
use Rattle.core_reader.specs.declared.look.Sign.TheVariants as signs
use Rattle.core_reader.specs.declared.look.TokenKind.{TokenKind}
use Rattle.core_reader.specs.declared.look.TokenKind.TheVariants.{Lower, Upper, Digits, Sign}
use Rattle.core_reader.specs.declared.token.Token.{Token}
use Rattle.core_reader.specs.declared.token.Token.TheVariants as word
use Rattle.core_reader.specs.declared.token.Lexeme.{Lexeme}
use Rattle.core_reader.specs.declared.refusal.ReadRefusal.{ReadRefusal}
use Rattle.core_reader.specs.Bytes.{is_inner}
use Rattle.core_reader.specs.Tree.{data_of}
use Rattle.core_reader.specs.Grammar.{unlimited_nesting, at_most_200}
use Rattle.core_reader.specs.TokensOf.{Piece, Reads, Stops, Passes, Takes, IsTokens, kind_of, every}
use Rattle.core_reader.specs.WordsOf.{said, said_by, keyword_or_name, keyword_of, sign_token}
use Rattle.core_reader.specs.NamesOf.{is_numbered_by}
use Rattle.core_reader.specs.ReadingOf.{run_of}
use Rattle.core_reader.specs.LexedOf.{StopsAt, AtEnd, AtBad, AtLarge, IsLexed}
use Rattle.core_reader.proofs.NamingOf.{Texts, has, Held, EachHeld, each_held}
use Rattle.core_reader.proofs.ReadingOf.{IsLast}
use Rattle.core_reader.proofs.Explains.{AreTokens, Explained, explains}
use Rattle.core_reader.proofs.Proper.{no_bad, IsKeyword, keyword_is_word}
use Rattle.core_reader.proofs.Unique.{ends_at}
use Rattle.core_reader.proofs.OnlyOne.{one_tokens}
use Rattle.core_reader.proofs.Readability.{at_number}
use Rattle.core_reader.proofs.Answers.{Found, found_by, spelled_by, refused_by}
use Rattle.match_compile.specs.declared.refusal.MatchRefusal.{MatchRefusal}
use Rattle.match_compile.specs.declared.refusal.MatchRefusal.TheVariants.{ReservedMatch}
use Rattle.match_compile.specs.declared.reader.Parts.{Parts}
use Rattle.match_compile.specs.Source.{Source}
use Rattle.match_compile.specs.SourceOf.{equation_of}
use Rattle.match_compile.specs.Grammar.{Decl, IsSource, IsReadCause}
use Rattle.match_compile.specs.Reading.{top, step, run, ReadsSource}
use Rattle.match_compile.specs.Rules.{is_reserved, IsReserved}
use Rattle.match_compile.specs.Refusal.{rule, place, least_refusal, refusal_if}
use Rattle.match_compile.specs.Faults.{is_reserved_token, reserved_faults, IsFirstReserved}
use Rattle.match_compile.proofs.Reading.{source_reads}

-- ---- the equations of a text

abbrev pub source_from : Texts → Parts → Source
source_from names parts = record {
  names = names;
  constructors = map data_of parts.constructors.items;
  equations = map equation_of parts.equations.items;
}

module _ (text : List ℕ) (lexemes : List Lexeme) (names : Texts) (short : length text ≤ 1048576)
    (l : IsLexed Core text lexemes names) where
  pub derived : (parts : Parts) → ReadsSource lexemes (Ok parts)
      → IsSource unlimited_nesting (source_from names parts) l.pieces
  derived parts h = record {
    names = l.named;
    decls = h.0;
    constructors = h.1;
    equations = h.2;
    spelled
        = spelled_by source_reads text lexemes names h.0 l h.3;
  }

  pub found : (parts : Parts) → ReadsSource lexemes (Ok parts)
      → Found Core IsSource text (source_from names parts)
  found parts h = found_by source_reads text lexemes names h.0 short l h.3 (source_from names parts)
      (derived parts h)

  pub refused : (e : ReadRefusal) → ReadsSource lexemes (Err e) → IsReadCause text e
  refused e h = refused_by source_reads text lexemes names e short l h

-- ---- the tokens of a text that was read

are_tokens : {at end : ℕ} {bytes rest : List ℕ} {pieces : List Piece} (names : Texts)
    → Reads Core at bytes pieces end rest → AreTokens Core names pieces
are_tokens names (Stops at rest) = tt
are_tokens names (Passes at n bytes pieces end rest h r) = are_tokens names r
are_tokens names (Takes at n bytes k pieces end rest h r) =
    (no_bad Core names (take n bytes) k h.is_token, are_tokens names r)

last_token : (at : ℕ) (rest : List ℕ) (last : Lexeme) → StopsAt Core at rest last
    → IsLast last.token
last_token at rest last (AtEnd e) = tt
last_token at rest last (AtBad e) = tt
last_token at rest last (AtLarge n l o) = tt

at_end : (at : ℕ) (rest : List ℕ) (last : Lexeme) → StopsAt Core at rest last
    → last.token ≡ word.End → rest ≡ []
at_end at rest last (AtEnd e) h = e
at_end at rest last (AtBad e) h = absurd cc
at_end at rest last (AtLarge n l o) h = absurd cc

tokens_read : (text : List ℕ) (lexemes : List Lexeme) (names : Texts)
    (l : IsLexed Core text lexemes names) (ds : List Decl) → run (top []) lexemes ≡ Ok ds
    → IsTokens Core text l.pieces
tokens_read text lexemes names l ds h =
    let e : Explained source_reads names l.pieces l.last (run_of step at_most_200 (top []) lexemes)
    =
    subst (λ u. Explained source_reads names l.pieces l.last (run_of step at_most_200 (top []) u))
    (sym l.lexed)
    (explains source_reads names l.pieces l.last (are_tokens names l.reads)
    (last_token l.at l.rest l.last l.stop)) in
    let x : Explained source_reads names l.pieces l.last (Ok ds)
    = subst (Explained source_reads names l.pieces l.last) h e in
    let over = at_end l.at l.rest l.last l.stop x.0 in
    let placed = ends_at l.reads in
    let end : l.at ≡ length text = omega (arith, placed, ap length over) in
    subst (λ v. Reads Core 0 text l.pieces v []) end
    (subst (λ v. Reads Core 0 text l.pieces l.at v) over l.reads)

-- ---- names that begin with `match'`

not_last : (names : Texts) (at : ℕ) (rest : List ℕ) (last : Lexeme) → StopsAt Core at rest last
    → is_reserved_token names last.token ≡ false
not_last names at rest last (AtEnd e) = refl
not_last names at rest last (AtBad e) = refl
not_last names at rest last (AtLarge n l o) = refl

word_not : (names : Texts) (w : List ℕ) (o : Option Token) → IsKeyword o
    → (is_none o ≡ true → has names w ≡ true) → is_reserved_token names (keyword_or_name names w o)
    ≡ true → is_reserved w ≡ true
word_not names w None k h e = sym (ap (λ v. is_reserved (or_empty v)) (at_number names w (h refl)))
    ∙ e
word_not names w (Some (word.Name n)) k h e = absurd k
word_not names w (Some token) k h e = absurd cc

sign_not : (names : Texts) (s : _) → is_reserved_token names (sign_token s) ≡ true → ⊥
sign_not names signs.Semicolon e = cc
sign_not names signs.Equals e = cc
sign_not names signs.OpenBrace e = cc
sign_not names signs.CloseBrace e = cc
sign_not names signs.Open e = cc
sign_not names signs.Close e = cc
sign_not names signs.Arrow e = cc
sign_not names signs.Backslash e = cc
sign_not names signs.Bar e = cc
sign_not names signs.Colon e = cc

-- the token of a name that begins so has bytes that do
begins_by : (names : Texts) (w : List ℕ) (o : Option TokenKind) → kind_of Core w ≡ o
    → (is_numbered_by Core w o ≡ true → has names w ≡ true)
    → is_reserved_token names (said_by Core names w o) ≡ true → is_reserved w ≡ true
begins_by names w None k h e = absurd cc
begins_by names w (Some Lower) k h e = word_not names w (keyword_of Core w) (keyword_is_word Core w)
    h e
begins_by names w (Some Upper) k h e = absurd cc
begins_by names w (Some Digits) k h e = absurd cc
begins_by names w (Some (Sign s)) k h e = absurd (sign_not names s e)

-- and the other way round
at_letter : (names : Texts) (bs : List ℕ) (k : TokenKind) → kind_of Core (109 ∷ bs) ≡ Some k
    → is_reserved (109 ∷ bs) ≡ true →
    (is_numbered_by Core (109 ∷ bs) (kind_of Core (109 ∷ bs)) ≡ true → has names (109 ∷ bs) ≡ true)
    → is_reserved_token names (said_by Core names (109 ∷ bs) (kind_of Core (109 ∷ bs))) ≡ true
at_letter names bs k e r h = by (every is_inner bs) refl
  where
    lower : kind_of Core (109 ∷ bs) ≡ Some Lower → is_reserved_token names
        (said_by Core names (109 ∷ bs) (kind_of Core (109 ∷ bs))) ≡ true
    lower f =
        let held : has names (109 ∷ bs) ≡ true = h (ap (λ o. is_numbered_by Core (109 ∷ bs) o) f) in
        ap (λ o. is_reserved_token names (said_by Core names (109 ∷ bs) o)) f ∙ ap
        (λ v. is_reserved (or_empty v)) (at_number names (109 ∷ bs) held) ∙ r

    by : (b : Bool) → every is_inner bs ≡ b → is_reserved_token names
        (said_by Core names (109 ∷ bs) (kind_of Core (109 ∷ bs))) ≡ true
    by true f = lower (ap (λ b. if b then Some Lower else None) f)
    by false f = absurd (none_some (sym (ap (λ b. if b then Some Lower else None) f) ∙ e))
      where
        none_some : ◌≡◌ {A = Option TokenKind} None (Some k) → ⊥
        none_some g = cc

abbrev Begins : Texts → List ℕ → TokenKind → ℕ → Type 0
Begins names bs k b = kind_of Core (b ∷ bs) ≡ Some k → is_reserved (b ∷ bs) ≡ true
    → (is_numbered_by Core (b ∷ bs) (kind_of Core (b ∷ bs)) ≡ true → has names (b ∷ bs) ≡ true)
    → is_reserved_token names (said_by Core names (b ∷ bs) (kind_of Core (b ∷ bs))) ≡ true

token_begins : (names : Texts) (w : List ℕ) (k : TokenKind) → kind_of Core w ≡ Some k
    → is_reserved w ≡ true → (is_numbered_by Core w (kind_of Core w) ≡ true → has names w ≡ true)
    → is_reserved_token names (said_by Core names w (kind_of Core w)) ≡ true
token_begins names [] k e r h = absurd (no_letter r)
  where
    no_letter : is_reserved [] ≡ true → ⊥
    no_letter e = cc
token_begins names (b ∷ bs) k e r h =
    let same : 109 ≡ b = eq_from 109 b (and_left (nat_eq 109 b) _ r) in
    subst (Begins names bs k) same (at_letter names bs k) e r h

kind_in : {at end : ℕ} {bytes rest : List ℕ} {pieces : List Piece}
    → Reads Core at bytes pieces end rest → (p : Piece) → In p pieces → (k : TokenKind)
    × (kind_of Core p.bytes ≡ Some k)
kind_in (Stops at rest) p i = none_in i
kind_in (Passes at n bytes pieces end rest h r) p i = kind_in r p i
kind_in (Takes at n bytes k pieces end rest h r) p here = (k, h.is_token)
kind_in (Takes at n bytes k pieces end rest h r) p (there i) = kind_in r p i

both : (b : Bool) → b ≡ true → b ≡ false → ⊥
both b e f = cc

held_in : (names : Texts) (ps : List Piece) → EachHeld Core names ps → (p : Piece) → In p ps
    → Held Core names p
held_in names [] h p i = none_in i
held_in names (q ∷ ps) h p here = h.0
held_in names (q ∷ ps) h p (there i) = held_in names ps h.1 p i

module _ (text : List ℕ) (lexemes : List Lexeme) (names : Texts)
    (l : IsLexed Core text lexemes names) where
  reserved_sound : (ds : List Decl) → run (top []) lexemes ≡ Ok ds → (r : MatchRefusal)
      → In r (reserved_faults names lexemes) → (rule r ≡ 74) × IsReserved text (place r)
  reserved_sound ds h r i =
      let w = flat_in (λ l. refusal_if (is_reserved_token names l.token) (ReservedMatch l.at))
      lexemes i in
      let x = w.0 in
      let n = when_in (is_reserved_token names x.token) (ReservedMatch x.at ∷ []) w.2 in
      let is = one_in (ReservedMatch x.at) n.1 in
      subst (λ (r : MatchRefusal). (rule r ≡ 74) × IsReserved text (place r)) (sym is) (
        refl,
        at_lexeme x
            (in_split (map (said Core names) l.pieces) (l.last ∷ []) (subst (In x) l.lexed w.1))
            n.0,
      )
    where
      at_lexeme : (x : Lexeme) → In x (map (said Core names) l.pieces) ⊎ In x (l.last ∷ [])
          → is_reserved_token names x.token ≡ true → IsReserved text x.at
      at_lexeme x (inl j) b =
          let m = map_in (said Core names) l.pieces j in
          let p = m.0 in
          let held = held_in names l.pieces
          (subst (λ v. EachHeld Core v l.pieces) (sym l.named) (each_held Core [] l.pieces)) p
          m.1 in
          record {
            pieces = l.pieces;
            tokens = tokens_read text lexemes names l ds h;
            name = p;
            stands = m.1;
            begins = begins_by names p.bytes (kind_of Core p.bytes) refl held
                (ap (λ (y : Lexeme). is_reserved_token names y.token) (sym m.2) ∙ b);
            place = ap (λ (y : Lexeme). y.at) (sym m.2);
          }
      at_lexeme x (inr j) b = absurd
          (both (is_reserved_token names x.token) b
          (ap (λ (y : Lexeme). is_reserved_token names y.token) (one_in l.last j) ∙ not_last names
          l.at l.rest l.last l.stop))

  reserved_complete : (ds : List Decl) → run (top []) lexemes ≡ Ok ds → (at : ℕ)
      → IsReserved text at → In (ReservedMatch at) (reserved_faults names lexemes)
  reserved_complete ds h at w =
      let same = one_tokens text w.pieces l.pieces w.tokens (tokens_read text lexemes names l ds h)
      in
      let p = w.name in
      let i : In p l.pieces = subst (In p) same w.stands in
      let held = held_in names l.pieces
      (subst (λ v. EachHeld Core v l.pieces) (sym l.named) (each_held Core [] l.pieces)) p i in
      let k = kind_in l.reads p i in
      let x = said Core names p in
      let j : In x lexemes = subst (In x) (sym l.lexed)
      (in_left (map (said Core names) l.pieces) (l.last ∷ [])
      (in_map (said Core names) l.pieces i)) in
      let b : is_reserved_token names x.token ≡ true
      = token_begins names p.bytes k.0 k.1 w.begins held in
      let met : In (ReservedMatch x.at) (reserved_faults names lexemes)
      = in_flat (λ l. refusal_if (is_reserved_token names l.token) (ReservedMatch l.at)) lexemes
      j (in_when (is_reserved_token names x.token) (ReservedMatch x.at ∷ []) b here) in
      subst (λ n. In (ReservedMatch n) (reserved_faults names lexemes)) w.place met

  pub are_met : (ds : List Decl) → run (top []) lexemes ≡ Ok ds
      → IsFirstReserved text (least_refusal None (reserved_faults names lexemes))
  are_met ds h = record {
    all = reserved_faults names lexemes;
    is = refl;
    sound = reserved_sound ds h;
    complete
        = reserved_complete ds h;
  }
