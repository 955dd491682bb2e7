-- The refusal that a reading gives is the first rule that the text breaks.
use Rattle.std.proofs.Common.{◌≡◌, ℕ, Bool, true, false, cond, eqb, List, [], ◌∷◌, ◌++◌, take, map, Some, Err, refl, sym, ap, subst, ◌∙◌, inl, inr}
use Rattle.std.specs.Prelude.{ℤ, pos, neg_ℤ}
use Rattle.std.proofs.lemmas.List.{append-nil}
use Rattle.core_reader.specs.declared.dialect.Dialect.{Dialect}
use Rattle.core_reader.specs.declared.look.TokenKind.TheVariants.{Digits}
use Rattle.core_reader.specs.declared.token.Token.TheVariants as word
use Rattle.core_reader.specs.declared.token.Lexeme.{Lexeme}
use Rattle.core_reader.specs.declared.refusal.ReadRefusal.{ReadRefusal}
use Rattle.core_reader.specs.declared.refusal.ReadRefusal.TheVariants as refusal
use Rattle.core_reader.specs.Grammar.{unlimited_nesting, at_most_200}
use Rattle.core_reader.specs.TokensOf.{Piece, NothingBegins, kind_of}
use Rattle.core_reader.specs.WordsOf.{said, said_by, digits_from, has_minus, written_number}
use Rattle.core_reader.specs.NamesOf.{names_of}
use Rattle.core_reader.specs.ProgramsOf.{Language}
use Rattle.core_reader.specs.RulesOf.{IsFirstUnread, IsCause}
use Rattle.core_reader.specs.LexedOf as lexed
use Rattle.core_reader.specs.LexedOf.{StopsAt, AtBad, AtLarge, AreInRange}
use Rattle.core_reader.specs.ReadingOf.{Reading, go, stop}
use Rattle.core_reader.proofs.ReadingOf.{IsOpening, ReadsLanguage}
use Rattle.core_reader.proofs.Explains.{Known, Explained, Agrees, agrees_front, viable, stops, no_program, led_on}
use Rattle.core_reader.proofs.NamingOf.{Texts}
use Rattle.core_reader.proofs.FirstBroken.{Clear, ReadText, Large, one_last, in_range_front, large_piece, syntax_first, deep_first, large_syntax_first, large_range_first, bad_first, end_first}

plain_by : (b : Bool) (x y : ℤ) (n : ℕ) → y ≡ pos n → b ≡ false → (m : ℕ) × (cond b x y ≡ pos m)
plain_by true x y n e f = absurd cc
plain_by false x y n e f = (n, e)

plain_number : (w : List ℕ) → has_minus w ≡ false → (n : ℕ) × (written_number w ≡ pos n)
plain_number [] h = (0, refl)
plain_number (b ∷ bs) h = plain_by (eqb b 45) (neg_ℤ (pos (digits_from 0 bs)))
    (pos (digits_from 0 (b ∷ bs))) (digits_from 0 (b ∷ bs)) refl h

module _ {P : Type 0} {d : Dialect} {r : Reading} {Derives : Language P}
    (w : ReadsLanguage d r Derives) where
  clear_front : (names : Texts) (pieces us vs : List Piece) (s : r.State)
      → names ≡ names_of d pieces → AreInRange d pieces → pieces ≡ us ++ vs → Known w names us s
      → Clear d Derives us
  clear_front names pieces us vs s named small e k =
      let agrees : Agrees d names us = ap (λ v. map (said d v) us) (named ∙ ap (names_of d) e) ∙
      agrees_front d us vs in
      record {
        some = viable w unlimited_nesting names us s k.p agrees;
        shallow
            = viable w at_most_200 names us s k.b agrees;
        small
            = in_range_front d us vs (subst (AreInRange d) e small);
      }

  agrees_at : (names : Texts) (pieces us : List Piece) (x : Piece) (vs : List Piece)
      → names ≡ names_of d pieces → pieces ≡ us ++ (x ∷ vs) → Agrees d names (us ++ x ∷ [])
  agrees_at names pieces us x vs named e = ap (λ v. map (said d v) (us ++ x ∷ []))
      (named ∙ ap (names_of d) (e ∙ sym (one_last us x vs))) ∙ agrees_front d (us ++ x ∷ []) vs

  -- a token at which the reading stops
  syntax_at : (text : List ℕ) (pieces : List Piece) (at : ℕ) (rest : List ℕ) (names : Texts)
      (us : List Piece) (x : Piece) (vs : List Piece) (s : r.State) (er : ReadRefusal)
      → ReadText d text pieces at rest names
      → pieces ≡ us ++ (x ∷ vs) → Known w names us s
      → r.step unlimited_nesting s x.at (said d names x).token ≡ stop er
      → IsFirstUnread d Derives text 2 x.at
  syntax_at text pieces at rest names us x vs s er t e k h =
      let c = clear_front names pieces us (x ∷ vs) s t.named t.in_range e k in
      let none = stops w unlimited_nesting names us s x er k.p
      (agrees_at names pieces us x vs t.named e) h in
      syntax_first text pieces at rest names us x vs t e c none

  no_opening : (names : Texts) (x : Piece) → IsOpening (said d names x).token
      → kind_of d x.bytes ≡ Some Digits → ⊥
  no_opening names x h e = subst (λ o. IsOpening (said_by d names x.bytes o)) e h

  deep_at : (text : List ℕ) (pieces : List Piece) (at : ℕ) (rest : List ℕ) (names : Texts)
      (us : List Piece) (x : Piece) (vs : List Piece) (s next : r.State) (er : ReadRefusal)
      → ReadText d text pieces at rest names
      → pieces ≡ us ++ (x ∷ vs) → Known w names us s
      → r.step unlimited_nesting s x.at (said d names x).token ≡ go next
      → r.step at_most_200 s x.at (said d names x).token ≡ stop er
      → IsOpening (said d names x).token → IsFirstUnread d Derives text 4 x.at
  deep_at text pieces at rest names us x vs s next er t e k h g opening =
      let c = clear_front names pieces us (x ∷ vs) s t.named t.in_range e k in
      let agrees = agrees_at names pieces us x vs t.named e in
      let some = viable w unlimited_nesting names (us ++ x ∷ []) next
      (led_on w unlimited_nesting names us s next x k.p h) agrees in
      let none = stops w at_most_200 names us s x er k.b agrees g in
      deep_first text pieces at rest names us x vs t e c (no_opening names x opening) some none

  -- ---- an integer out of the range, behind what was read

  said_large : (names : Texts) (x : Piece) → kind_of d x.bytes ≡ Some Digits
      → (said d names x).token ≡ word.Number (has_minus x.bytes) (written_number x.bytes)
  said_large names x e = ap (said_by d names x.bytes) e

  agrees_large : (names : Texts) (pieces : List Piece) (x : Piece)
      → names ≡ names_of d (pieces ++ x ∷ []) → Agrees d names (pieces ++ x ∷ [])
  agrees_large names pieces x e = ap (λ v. map (said d v) (pieces ++ x ∷ [])) e

  syntax_large : (text : List ℕ) (pieces : List Piece) (at : ℕ) (rest : List ℕ) (names : Texts)
      (x : Piece) (s : r.State) (p : ℕ) → ReadText d text pieces at rest names
      → Known w names pieces s → Large d text pieces at rest names x
      → r.step unlimited_nesting s x.at (word.Large (has_minus x.bytes)) ≡ stop (refusal.Syntax p)
      → IsFirstUnread d Derives text 2 x.at
  syntax_large text pieces at rest names x s p t known l h =
      let c = clear_front names pieces pieces [] s t.named t.in_range (sym (append-nil pieces))
      known in
      let none = stops w unlimited_nesting names pieces s x (refusal.Syntax p) known.p
      (agrees_large names pieces x l.named)
      (ap (r.step unlimited_nesting s x.at) (said_large names x l.digits) ∙ w.laws.large_stops s
      x.at p (has_minus x.bytes) (written_number x.bytes) h) in
      large_syntax_first text pieces at rest names x t c l none

  range_large : (text : List ℕ) (pieces : List Piece) (at : ℕ) (rest : List ℕ) (names : Texts)
      (x : Piece) (s : r.State) (p : ℕ) → ReadText d text pieces at rest names
      → Known w names pieces s → Large d text pieces at rest names x
      → r.step unlimited_nesting s x.at (word.Large (has_minus x.bytes)) ≡ stop
      (refusal.NumberRange p) → IsFirstUnread d Derives text 3 x.at
  range_large text pieces at rest names x s p t known l h =
      let g = w.laws.large_goes s x.at p (has_minus x.bytes) (written_number x.bytes) h
      (plain_number x.bytes) in
      let some = viable w unlimited_nesting names (pieces ++ x ∷ []) g.0
      (led_on w unlimited_nesting names pieces s g.0 x known.p
      (ap (r.step unlimited_nesting s x.at) (said_large names x l.digits) ∙ g.1))
      (agrees_large names pieces x l.named) in
      let c = clear_front names pieces pieces [] s t.named t.in_range (sym (append-nil pieces))
      known in
      large_range_first text pieces at rest names x t c l some

  -- ---- the end of the text and a bad byte

  bad_stop : (text : List ℕ) (pieces : List Piece) (at : ℕ) (rest : List ℕ) (names : Texts)
      (s : r.State) → ReadText d text pieces at rest names → Known w names pieces s
      → NothingBegins d rest → IsFirstUnread d Derives text 1 at
  bad_stop text pieces at rest names s t known nothing =
      bad_first text pieces at rest names t
      (clear_front names pieces pieces [] s t.named t.in_range (sym (append-nil pieces)) known)
      nothing

  end_stop : (text : List ℕ) (pieces : List Piece) (at : ℕ) (rest : List ℕ) (names : Texts)
      (s : r.State) (er : ReadRefusal) → ReadText d text pieces at rest names
      → Known w names pieces s → rest ≡ [] → r.step unlimited_nesting s at word.End ≡ stop er
      → IsFirstUnread d Derives text 2 at
  end_stop text pieces at rest names s er t known e h =
      let c = clear_front names pieces pieces [] s t.named t.in_range (sym (append-nil pieces))
      known in
      let agrees : Agrees d names pieces = ap (λ v. map (said d v) pieces) t.named in
      end_first text pieces at rest names t c e
      (λ p v. no_program w names pieces s at er p known.p agrees h v)

  -- ---- all of them

  abbrev Cause : List ℕ → Texts → List Piece → Lexeme → ReadRefusal → Type 0
  Cause text names pieces last e = Explained w names pieces last (Err e) → IsCause d Derives text e

  same_place : (text : List ℕ) (k at at' : ℕ) → at ≡ at' → IsFirstUnread d Derives text k at
      → IsFirstUnread d Derives text k at'
  same_place text k at at' e h = subst (IsFirstUnread d Derives text k) e h

  cause_by : (text : List ℕ) (pieces : List Piece) (at : ℕ) (rest : List ℕ) (names : Texts)
      (last : Lexeme) (e : ReadRefusal) → ReadText d text pieces at rest names
      → StopsAt d at rest last → Cause text names pieces last e
  cause_by text pieces at rest names last (refusal.BadByte p) t (lexed.AtEnd nil) h = absurd cc
  cause_by text pieces at rest names last (refusal.BadByte p) t (AtBad nothing) h
      = same_place text 1 at p h.0.place
      (bad_stop text pieces at rest names h.0.state t h.0.known nothing)
  cause_by text pieces at rest names last (refusal.BadByte p) t (AtLarge n longest outside) h
      = absurd cc
  cause_by text pieces at rest names last (refusal.Syntax p) t st (inl h) =
      same_place text 2 h.0.here.at p h.0.place
      (syntax_at text pieces at rest names h.0.before h.0.here h.0.after h.0.state
      (refusal.Syntax p) t h.0.whole h.0.known h.1)
  cause_by text pieces at rest names last (refusal.Syntax p) t (lexed.AtEnd nil) (inr h)
      = same_place text 2 at p h.0.place
      (end_stop text pieces at rest names h.0.state (refusal.Syntax p) t h.0.known nil h.2)
  cause_by text pieces at rest names last (refusal.Syntax p) t (AtBad nothing) (inr h)
      = absurd (h.1 refl)
  cause_by text pieces at rest names last (refusal.Syntax p) t (AtLarge n longest outside) (inr h) =
      same_place text 2 at p h.0.place
      (syntax_large text pieces at rest names (record { bytes = take n rest; at = at })
      h.0.state p t h.0.known (large_piece text pieces at rest names n t longest outside) h.2)
  cause_by text pieces at rest names last (refusal.NumberRange p) t (lexed.AtEnd nil) h = absurd cc
  cause_by text pieces at rest names last (refusal.NumberRange p) t (AtBad nothing) h = absurd cc
  cause_by text pieces at rest names last (refusal.NumberRange p) t (AtLarge n longest outside) h =
      same_place text 3 at p h.0.place
      (range_large text pieces at rest names (record { bytes = take n rest; at = at }) h.0.state
      p t h.0.known (large_piece text pieces at rest names n t longest outside) h.3)
  cause_by text pieces at rest names last (refusal.TooDeep p) t st h =
      same_place text 4 h.0.here.at p h.0.place
      (deep_at text pieces at rest names h.0.before h.0.here h.0.after h.0.state h.1
      (refusal.TooDeep p) t h.0.whole h.0.known h.2 h.3 h.4)
  cause_by text pieces at rest names last refusal.TextTooLong t st h = absurd h
  cause_by text pieces at rest names last (refusal.Memory er) t st h = absurd h

  pub cause : (text : List ℕ) (pieces : List Piece) (at : ℕ) (rest : List ℕ) (names : Texts)
      (last : Lexeme) (e : ReadRefusal) → ReadText d text pieces at rest names
      → StopsAt d at rest last → Explained w names pieces last (Err e) → IsCause d Derives text e
  cause text pieces at rest names last e t st h = cause_by text pieces at rest names last e t st h
