-- A header of a text's own before declarations of Core: what it owes, and that the whole reading
-- then
-- owes what a reading of a text does.
use Rattle.std.proofs.Common.{◌≡◌, ℕ, Bool, false, List, [], ◌∷◌, ◌++◌, Result, Ok, Err, refl, sym, ap, ◌∙◌, append_assoc}
use Rattle.std.specs.Prelude.{ℤ, pos}
use Rattle.core_reader.specs.declared.dialect.Dialect.{Dialect}
use Rattle.core_reader.specs.declared.token.Token.{Token}
use Rattle.core_reader.specs.declared.token.Token.TheVariants as word
use Rattle.core_reader.specs.declared.token.Lexeme.{Lexeme}
use Rattle.core_reader.specs.declared.refusal.ReadRefusal.{ReadRefusal}
use Rattle.core_reader.specs.declared.refusal.ReadRefusal.TheVariants.{BadByte, Syntax, NumberRange, TooDeep, TextTooLong, Memory}
use Rattle.core_reader.specs.Grammar.{NestingLimit, unlimited_nesting, at_most_200, lexeme, Decl, Declares, Defines, SpellsDecls}
use Rattle.core_reader.specs.TokensOf.{Piece}
use Rattle.core_reader.specs.ReadingOf.{Step, go, done, stop, follow, run_of}
use Rattle.core_reader.specs.Declaring.{State, top, step, run}
use Rattle.core_reader.specs.HeaderOf.{HeaderStep, on, over, wrong, Header, TextWithHeader, HeadedTextState, Ahead, Behind, behind, headed, steps, SpellsTextWithHeader, header_reading}
use Rattle.core_reader.proofs.NamingOf.{Texts}
use Rattle.core_reader.proofs.ReadingOf.{IsLast, ended, Good, Verdict, Plain, Accepts, Laws}
use Rattle.core_reader.proofs.CoreReading.{core_laws_in}

-- a token with which declarations, or none, begin
abbrev pub IsFirst : Token → Type 0
IsFirst word.Data = Unit {0}
IsFirst (word.Name n) = Unit {0}
IsFirst word.End = Unit {0}
IsFirst token = ⊥

-- What was read is what the next state knows, or spells a header that is whole before the token.
abbrev pub GoodHead : {S H : Type 0} → (S → List Lexeme → Type 0) → (H → List Lexeme → Type 0)
    → HeaderStep S H → (before with_token : List Lexeme) → Type 0
GoodHead Known Spells (on s) ts us = Known s us
GoodHead Known Spells (over x) ts us = Spells x ts
GoodHead Known Spells (wrong e) ts us = Unit {0}

abbrev pub PlainHead : {S H : Type 0} → ℕ → Token → HeaderStep S H → Type 0
PlainHead at token (on s) = Unit {0}
PlainHead at token (over x) = Unit {0}
PlainHead at token (wrong e) = Plain {S = State} {A = List Decl} at token (stop e)

pub record HeaderLaws (d : Dialect) (h : Header) : Type 1 where
  -- the tokens before a stage
  pub Known : h.Stage → List Lexeme → Type 0
  pub begins : Known h.start []
  pub sound : (s : h.Stage) (ts : List Lexeme) (at : ℕ) (token : Token) → Known s ts
      → GoodHead Known h.Spells (h.step s at token) ts (ts ++ lexeme at token ∷ [])
  -- tokens that complete the header, with no declaration behind it
  pub closing : h.Stage → List Piece
  pub closes : (names : Texts) (l : NestingLimit) (s : h.Stage) → (x : h.Said)
      × (run_of (steps h) l (Ahead s) (ended d names (closing s)) ≡ Ok
      (record { header = x; decls = [] }))
  pub whole : (l : NestingLimit) (x : h.Said) (us : List Lexeme) (t : Lexeme) (rest : List Lexeme)
      → h.Spells x us → IsFirst t.token → run_of (steps h) l (Ahead h.start) (us ++ t ∷ rest) ≡
      run_of (steps h) l (Behind x (top [])) (t ∷ rest)
  pub plain : (s : h.Stage) (at : ℕ) (token : Token) → PlainHead at token (h.step s at token)
  -- where an integer out of the range may stand, that number may
  pub large_goes : (s : h.Stage) (at p : ℕ) (minus : Bool) (v : ℤ)
      → h.step s at (word.Large minus) ≡ wrong (NumberRange p)
      → (minus ≡ false → (n : ℕ) × (v ≡ pos n)) → (next : h.Stage)
      × (h.step s at (word.Number minus v) ≡ on next)
  pub large_stops : (s : h.Stage) (at p : ℕ) (minus : Bool) (v : ℤ)
      → h.step s at (word.Large minus) ≡ wrong (Syntax p)
      → h.step s at (word.Number minus v) ≡ wrong (Syntax p)
  pub large_over : (s : h.Stage) (at : ℕ) (minus : Bool) (v : ℤ) (x : h.Said)
      → h.step s at (word.Large minus) ≡ over x → h.step s at (word.Number minus v) ≡ over x
  pub last_stays : (s next : h.Stage) (at : ℕ) (token : Token) → IsLast token
      → h.step s at token ≡ on next → ⊥

-- ---- behind the header

first_token : (l : NestingLimit) (ds : List Decl) (vs : List Lexeme) (end : ℕ) (rest : List Lexeme)
    → SpellsDecls l ds vs → (t : Lexeme) × (ts : List Lexeme)
    × (vs ++ lexeme end word.End ∷ rest ≡ t ∷ ts) × IsFirst t.token
first_token l [] vs end rest h =
    (lexeme end word.End, rest, ap (λ w. w ++ lexeme end word.End ∷ rest) h, tt)
first_token l (Declares c ∷ ds) vs end rest h = let g = h.2
    in (_, _, ap (λ w. w ++ lexeme end word.End ∷ rest) (h.4 ∙ ap (λ w. w ++ h.1) g.3), tt)
first_token l (Defines f ∷ ds) vs end rest h = let g = h.2
    in (_, _, ap (λ w. w ++ lexeme end word.End ∷ rest) (h.4 ∙ ap (λ w. w ++ h.1) g.4), tt)

behind_stop : {S H : Type 0} (x : H) (st : Step State (List Decl)) (e : ReadRefusal)
    → behind {S = S} x st ≡ stop e → st ≡ stop e
behind_stop x (go s) e h = absurd cc
behind_stop x (done ds) e h = absurd cc
behind_stop x (stop er) e h = let f : er ≡ e = cc in ap stop f

behind_go : {S H : Type 0} (x : H) (st : Step State (List Decl)) (next : HeadedTextState S H)
    → behind x st ≡ go next → (n : State) × (st ≡ go n)
behind_go x (go s) next h = (s, refl)
behind_go x (done ds) next h = absurd cc
behind_go x (stop er) next h = absurd cc

behind_done : {S H : Type 0} (x : H) (st : Step State (List Decl)) (a : TextWithHeader H)
    → behind {S = S} x st ≡ done a → (ds : List Decl) × (st ≡ done ds)
behind_done x (go s) a h = absurd cc
behind_done x (done ds) a h = (ds, refl)
behind_done x (stop er) a h = absurd cc

-- the answer with the header that was read before
abbrev pub with_said : {H : Type 0} → H → Result (List Decl) ReadRefusal
    → Result (TextWithHeader H) ReadRefusal
with_said x (Ok ds) = Ok (record { header = x; decls = ds })
with_said x (Err e) = Err e

module _ {d : Dialect} {h : Header} (w : HeaderLaws d h) where
  on_step : (l : NestingLimit) (x : h.Said) (ts : List Lexeme) (st : Step State (List Decl))
      → ((s : State) → run_of (steps h) l (Behind x s) ts ≡ with_said x (run l s ts))
      → follow (behind x st) (λ s. run_of (steps h) l s ts) ≡ with_said x
      (follow st (λ s. run l s ts))
  on_step l x ts (go s) later = later s
  on_step l x ts (done ds) later = refl
  on_step l x ts (stop e) later = refl

  -- Behind the header a text is read as one of Core.
  pub behind_runs : (l : NestingLimit) (x : h.Said) (s : State) (ts : List Lexeme)
      → run_of (steps h) l (Behind x s) ts ≡ with_said x (run l s ts)
  unfolding run_of
  behind_runs l x s [] = refl
  behind_runs l x s (t ∷ ts) = on_step l x ts (step l s t.at t.token) (λ s. behind_runs l x s ts)

  abbrev KnownBoth : NestingLimit → HeadedTextState h.Stage h.Said → List Lexeme → Type 0
  KnownBoth l (Ahead s) ts = w.Known s ts
  KnownBoth l (Behind x s) ts = (us vs : List Lexeme) × h.Spells x us
      × (core_laws_in d).Consumed l s vs × (ts ≡ us ++ vs)

  abbrev GoodBoth : NestingLimit → Step (HeadedTextState h.Stage h.Said) (TextWithHeader h.Said)
      → List Lexeme → Type 0
  GoodBoth l st ts = Good KnownBoth (SpellsTextWithHeader h) l st ts

  behind_good : (l : NestingLimit) (x : h.Said) (us vs ts : List Lexeme)
      (st : Step State (List Decl)) → h.Spells x us
      → Good (core_laws_in d).Consumed SpellsDecls l st vs → ts ≡ us ++ vs
      → GoodBoth l (behind x st) ts
  behind_good l x us vs ts (go s) g f e = (us, vs, g, f, e)
  behind_good l x us vs ts (done ds) g f e = (
    us ++ f.0,
    f.1,
    (us, f.0, g, f.2, refl),
    e ∙ ap (λ v. us ++ v) f.3 ∙ sym
        (append_assoc us f.0 (lexeme f.1 word.End ∷ [])),
  )
  behind_good l x us vs ts (stop er) g f e = tt

  head_good : (l : NestingLimit) (at : ℕ) (token : Token) (ts : List Lexeme)
      (st : HeaderStep h.Stage h.Said) → GoodHead w.Known h.Spells st ts
      (ts ++ lexeme at token ∷ []) → GoodBoth l (headed l at token st) (ts ++ lexeme at token ∷ [])
  head_good l at token ts (on s) g = g
  head_good l at token ts (over x) g = behind_good l x ts (lexeme at token ∷ [])
      (ts ++ lexeme at token ∷ []) (step l (top []) at token) g
      ((core_laws_in d).sound l (top []) [] at token ((core_laws_in d).begins l)) refl
  head_good l at token ts (wrong e) g = tt

  sound_both : (l : NestingLimit) (s : HeadedTextState h.Stage h.Said) (ts : List Lexeme) (at : ℕ)
      (token : Token) → KnownBoth l s ts → GoodBoth l (steps h l s at token)
      (ts ++ lexeme at token ∷ [])
  sound_both l (Ahead s) ts at token k = head_good l at token ts (h.step s at token)
      (w.sound s ts at token k)
  sound_both l (Behind x s) ts at token k =
      behind_good l x k.0 (k.1 ++ lexeme at token ∷ []) (ts ++ lexeme at token ∷ [])
      (step l s at token) k.2 ((core_laws_in d).sound l s k.1 at token k.3)
      (ap (λ v. v ++ lexeme at token ∷ []) k.4 ∙ append_assoc k.0 k.1 (lexeme at token ∷ []))

  ending_both : HeadedTextState h.Stage h.Said → List Piece
  ending_both (Ahead s) = w.closing s
  ending_both (Behind x s) = (core_laws_in d).ending s

  ends_both : (names : Texts) (l : NestingLimit) (s : HeadedTextState h.Stage h.Said)
      → (a : TextWithHeader h.Said) × (run_of (steps h) l s (ended d names (ending_both s)) ≡ Ok a)
  unfolding ending_both
  ends_both names l (Ahead s) = let e = w.closes names l s in (_, e.1)
  ends_both names l (Behind x s) = let e = (core_laws_in d).ends names l s
      in (_, behind_runs l x s (ended d names ((core_laws_in d).ending s)) ∙ ap (with_said x) e.1)

  whole_both : (l : NestingLimit) (a : TextWithHeader h.Said) (ts : List Lexeme) (end : ℕ)
      (rest : List Lexeme) → SpellsTextWithHeader h l a ts
      → run_of (steps h) l (Ahead h.start) (ts ++ lexeme end word.End ∷ rest) ≡ Ok a
  whole_both l a ts end rest g =
      let us = g.0 in
      let vs = g.1 in
      let tail = vs ++ lexeme end word.End ∷ rest in
      let f = first_token l a.decls vs end rest g.3 in
      ap (λ v. run_of (steps h) l (Ahead h.start) (v ++ lexeme end word.End ∷ rest)) g.4
      ∙ ap (run_of (steps h) l (Ahead h.start)) (append_assoc us vs (lexeme end word.End ∷ rest))
      ∙ ap (λ v. run_of (steps h) l (Ahead h.start) (us ++ v)) f.2
      ∙ w.whole l a.header us f.0 f.1 g.2 f.3
      ∙ ap (run_of (steps h) l (Behind a.header (top []))) (sym f.2)
      ∙ behind_runs l a.header (top []) tail
      ∙ ap (with_said a.header) ((core_laws_in d).whole l a.decls vs end rest g.3)

  behind_judged : (y : HeadedTextState h.Stage h.Said) (x : h.Said) (s : State) (at : ℕ)
      (token : Token) (st : Step State (List Decl))
      → steps h unlimited_nesting y at token ≡ behind x (step unlimited_nesting s at token)
      → Verdict step s at token st → Verdict (steps h) y at token (behind x st)
  behind_judged y x s at token (go n) e v = e ∙ ap (behind x) v
  behind_judged y x s at token (done ds) e v = e ∙ ap (behind x) v
  behind_judged y x s at token (stop (BadByte p)) e v = v
  behind_judged y x s at token (stop (Syntax p)) e v = (v.0, e ∙ ap (behind x) v.1, v.2)
  behind_judged y x s at token (stop (NumberRange p)) e v = (v.0, v.1, v.2, e ∙ ap (behind x) v.3)
  behind_judged y x s at token (stop (TooDeep p)) e v
      = (v.0, Behind x v.1, e ∙ ap (behind x) v.2, v.3)
  behind_judged y x s at token (stop TextTooLong) e v = v
  behind_judged y x s at token (stop (Memory er)) e v = v

  head_plain : (s : h.Stage) (at : ℕ) (token : Token) (er : ReadRefusal)
      → h.step s at token ≡ wrong er → Plain {S = State} {A = List Decl} at token (stop er)
      → Verdict (steps h) (Ahead s) at token (stop er)
  head_plain s at token (BadByte p) e v = v
  head_plain s at token (Syntax p) e v = (v.0, ap (headed unlimited_nesting at token) e, v.1)
  head_plain s at token (NumberRange p) e v =
      (v.0, v.1, v.2, ap (headed unlimited_nesting at token) e)
  head_plain s at token (TooDeep p) e v = absurd v
  head_plain s at token TextTooLong e v = v
  head_plain s at token (Memory er) e v = v

  head_judged : (s : h.Stage) (at : ℕ) (token : Token) (st : HeaderStep h.Stage h.Said)
      → h.step s at token ≡ st → PlainHead at token st
      → Verdict (steps h) (Ahead s) at token (headed at_most_200 at token st)
  head_judged s at token (on n) e v = ap (headed unlimited_nesting at token) e
  head_judged s at token (over x) e v = behind_judged (Ahead s) x (top []) at token
      (step at_most_200 (top []) at token) (ap (headed unlimited_nesting at token) e)
      ((core_laws_in d).judged (top []) at token)
  head_judged s at token (wrong er) e v = head_plain s at token er e v

  judged_both : (s : HeadedTextState h.Stage h.Said) (at : ℕ) (token : Token)
      → Verdict (steps h) s at token (steps h at_most_200 s at token)
  judged_both (Ahead s) at token = head_judged s at token (h.step s at token) refl
      (w.plain s at token)
  judged_both (Behind x s) at token = behind_judged (Behind x s) x s at token
      (step at_most_200 s at token) refl ((core_laws_in d).judged s at token)

  goes_by : (s : h.Stage) (at p : ℕ) (minus : Bool) (v : ℤ) (st : HeaderStep h.Stage h.Said)
      → h.step s at (word.Large minus) ≡ st → headed unlimited_nesting at (word.Large minus) st ≡
      stop (NumberRange p) → (minus ≡ false → (n : ℕ) × (v ≡ pos n))
      → Accepts (steps h) (Ahead s) at minus v
  goes_by s at p minus v (on n) e f k = absurd cc
  goes_by s at p minus v (over x) e f k = absurd cc
  goes_by s at p minus v (wrong er) e f k =
      let range : er ≡ NumberRange p = cc in
      let g = w.large_goes s at p minus v (e ∙ ap wrong range) k in
      (Ahead g.0, ap (headed unlimited_nesting at (word.Number minus v)) g.1)

  goes_both : (s : HeadedTextState h.Stage h.Said) (at p : ℕ) (minus : Bool) (v : ℤ)
      → steps h unlimited_nesting s at (word.Large minus) ≡ stop (NumberRange p)
      → (minus ≡ false → (n : ℕ) × (v ≡ pos n)) → Accepts (steps h) s at minus v
  goes_both (Ahead s) at p minus v e k = goes_by s at p minus v (h.step s at (word.Large minus))
      refl e k
  goes_both (Behind x s) at p minus v e k =
      let g = (core_laws_in d).large_goes s at p minus v
      (behind_stop x (step unlimited_nesting s at (word.Large minus)) (NumberRange p) e) k in
      (Behind x g.0, ap (behind x) g.1)

  stops_by : (s : h.Stage) (at p : ℕ) (minus : Bool) (v : ℤ) (st : HeaderStep h.Stage h.Said)
      → h.step s at (word.Large minus) ≡ st → headed unlimited_nesting at (word.Large minus) st ≡
      stop (Syntax p) → steps h unlimited_nesting (Ahead s) at (word.Number minus v) ≡ stop
      (Syntax p)
  stops_by s at p minus v (on n) e f = absurd cc
  stops_by s at p minus v (over x) e f = ap (headed unlimited_nesting at (word.Number minus v))
      (w.large_over s at minus v x e) ∙ f
  stops_by s at p minus v (wrong er) e f =
      let syntax : er ≡ Syntax p = cc in
      ap (headed unlimited_nesting at (word.Number minus v))
      (w.large_stops s at p minus v (e ∙ ap wrong syntax))

  stops_both : (s : HeadedTextState h.Stage h.Said) (at p : ℕ) (minus : Bool) (v : ℤ)
      → steps h unlimited_nesting s at (word.Large minus) ≡ stop (Syntax p)
      → steps h unlimited_nesting s at (word.Number minus v) ≡ stop (Syntax p)
  stops_both (Ahead s) at p minus v e = stops_by s at p minus v (h.step s at (word.Large minus))
      refl e
  stops_both (Behind x s) at p minus v e = ap (behind x)
      ((core_laws_in d).large_stops s at p minus v
      (behind_stop x (step unlimited_nesting s at (word.Large minus)) (Syntax p) e))

  stays_behind : (x : h.Said) (s : State) (next : HeadedTextState h.Stage h.Said) (at : ℕ)
      (token : Token) → IsLast token → behind x (step at_most_200 s at token) ≡ go next → ⊥
  stays_behind x s next at token l e =
      let g = behind_go x (step at_most_200 s at token) next e in
      (core_laws_in d).last_stays s g.0 at token l g.1

  stays_by : (s : h.Stage) (next : HeadedTextState h.Stage h.Said) (at : ℕ) (token : Token)
      (st : HeaderStep h.Stage h.Said) → h.step s at token ≡ st → IsLast token
      → headed at_most_200 at token st ≡ go next → ⊥
  stays_by s next at token (on n) e l f = w.last_stays s n at token l e
  stays_by s next at token (over x) e l f = stays_behind x (top []) next at token l f
  stays_by s next at token (wrong er) e l f = cc

  stays_both : (s next : HeadedTextState h.Stage h.Said) (at : ℕ) (token : Token) → IsLast token
      → steps h at_most_200 s at token ≡ go next → ⊥
  stays_both (Ahead s) next at token l e = stays_by s next at token (h.step s at token) refl l e
  stays_both (Behind x s) next at token l e = stays_behind x s next at token l e

  done_by : (s : h.Stage) (at : ℕ) (token : Token) (a : TextWithHeader h.Said)
      (st : HeaderStep h.Stage h.Said) → headed at_most_200 at token st ≡ done a → token ≡ word.End
  done_by s at token a (on n) e = absurd cc
  done_by s at token a (over x) e =
      let g = behind_done x (step at_most_200 (top []) at token) a e in
      (core_laws_in d).done_last (top []) at token g.0 g.1
  done_by s at token a (wrong er) e = absurd cc

  done_both : (s : HeadedTextState h.Stage h.Said) (at : ℕ) (token : Token)
      (a : TextWithHeader h.Said) → steps h at_most_200 s at token ≡ done a → token ≡ word.End
  done_both (Ahead s) at token a e = done_by s at token a (h.step s at token) e
  done_both (Behind x s) at token a e =
      let g = behind_done x (step at_most_200 s at token) a e in
      (core_laws_in d).done_last s at token g.0 g.1

  pub header_laws : Laws d (header_reading h)
  header_laws = record {
    Consumed = KnownBoth;
    begins = λ l. w.begins;
    sound = sound_both;
    ending = ending_both;
    ends = ends_both;
    whole = whole_both;
    judged = judged_both;
    large_goes = goes_both;
    large_stops = stops_both;
    last_stays = stays_both;
    done_last = done_both;
  }
