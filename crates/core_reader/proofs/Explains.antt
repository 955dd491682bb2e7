-- Each answer of a reading has its cause.
use Rattle.std.proofs.Common.{◌≡◌, ℕ, Bool, List, [], ◌∷◌, ◌++◌, Result, Ok, Err, refl, sym, ap, subst, ◌∙◌, append_assoc, inl, inr, ◌⊎◌, map}
use Rattle.std.proofs.lemmas.List.{append-nil}
use Rattle.seq.proofs.Lists.{map_push}
use Rattle.core_reader.specs.declared.dialect.Dialect.{Dialect}
use Rattle.core_reader.specs.declared.token.Token.{Token}
use Rattle.core_reader.specs.declared.token.Token.TheVariants as word
use Rattle.core_reader.specs.declared.token.Lexeme.{Lexeme}
use Rattle.core_reader.specs.declared.refusal.ReadRefusal.{ReadRefusal}
use Rattle.core_reader.specs.declared.refusal.ReadRefusal.TheVariants.{BadByte, Syntax, NumberRange, TooDeep, TextTooLong, Memory}
use Rattle.core_reader.specs.Grammar.{NestingLimit, unlimited_nesting, at_most_200, lexeme}
use Rattle.core_reader.specs.TokensOf.{Piece}
use Rattle.core_reader.specs.WordsOf.{said}
use Rattle.core_reader.specs.NamesOf.{names_of}
use Rattle.core_reader.specs.ProgramsOf.{Language, Viable}
use Rattle.core_reader.specs.ReadingOf.{Step, go, done, stop, Reading, follow, run_of}
use Rattle.core_reader.proofs.ReadingOf.{IsOpening, IsLast, ended, Good, Verdict, ReadsLanguage}
use Rattle.core_reader.proofs.Proper.{no_end, no_large}
use Rattle.core_reader.proofs.NamingOf.{Texts, stable}

pub last_same : {A : Type 0} (xs ys : List A) (x y : A) → xs ++ x ∷ [] ≡ ys ++ y ∷ [] → (xs ≡ ys)
    × (x ≡ y)
last_same [] [] x y e = (refl, cc)
last_same [] (b ∷ []) x y e = absurd cc
last_same [] (b ∷ c ∷ ys) x y e = absurd cc
last_same (a ∷ []) [] x y e = absurd cc
last_same (a ∷ c ∷ xs) [] x y e = absurd cc
last_same (a ∷ xs) (b ∷ ys) x y e =
    let tails : xs ++ x ∷ [] ≡ ys ++ y ∷ [] = cc in
    let heads : a ≡ b = cc in
    let r = last_same xs ys x y tails in
    ((λ i. heads i ∷ r.0 i), r.1)

-- the numbers of the first tokens are those that the tokens alone give
abbrev pub Agrees : Dialect → Texts → List Piece → Type 0
Agrees d names ts = map (said d names) ts ≡ map (said d (names_of d ts)) ts

pub agrees_front : (d : Dialect) (us vs : List Piece) → Agrees d (names_of d (us ++ vs)) us
agrees_front d us vs = stable d us vs

pub map_parts : (d : Dialect) (names : Texts) (us vs : List Piece)
    → map (said d names) (us ++ vs) ≡ map (said d names) us ++ map (said d names) vs
map_parts d names [] vs = refl
map_parts d names (u ∷ us) vs = ap (λ w. said d names u ∷ w) (map_parts d names us vs)

-- no byte of the tokens is bad
abbrev pub AreTokens : Dialect → Texts → List Piece → Type 0
AreTokens d names [] = Unit {0}
AreTokens d names (x ∷ xs) = ((said d names x).token ≡ word.Bad → ⊥) × AreTokens d names xs

opening_last : (token : Token) → IsOpening token → IsLast token → ⊥
opening_last word.Open h g = g
opening_last word.Let h g = g
opening_last word.Case h g = g
opening_last token h g = absurd h

-- ---- the state that the tokens lead to

-- with the names numbered as in a table
pub record Led {P : Type 0} {d : Dialect} {r : Reading} {Derives : Language P}
    (w : ReadsLanguage d r Derives) (l : NestingLimit) (names : Texts) (ts : List Piece)
    (s : r.State) : Type 0 where
  pub consumed : w.laws.Consumed l s (map (said d names) ts)
  pub reach : (rest : List Lexeme) → run_of r.step l r.start (map (said d names) ts ++ rest) ≡
      run_of r.step l s rest

pub record Known {P : Type 0} {d : Dialect} {r : Reading} {Derives : Language P}
    (w : ReadsLanguage d r Derives) (names : Texts) (ts : List Piece) (s : r.State) : Type 0 where
  pub b : Led w at_most_200 names ts s
  pub p : Led w unlimited_nesting names ts s

-- a token at which the reading stops, those before it and those behind
pub record Halt {P : Type 0} {d : Dialect} {r : Reading} {Derives : Language P}
    (w : ReadsLanguage d r Derives) (names : Texts) (pieces : List Piece) (at : ℕ) : Type 0 where
  pub before : List Piece
  pub here : Piece
  pub after : List Piece
  pub whole : pieces ≡ before ++ (here ∷ after)
  pub place : here.at ≡ at
  pub state : r.State
  pub known : Known w names before state

-- the reading stops behind all tokens
pub record Halted {P : Type 0} {d : Dialect} {r : Reading} {Derives : Language P}
    (w : ReadsLanguage d r Derives) (names : Texts) (pieces : List Piece) (last : Lexeme) (at : ℕ)
    : Type 0 where
  pub place : last.at ≡ at
  pub state : r.State
  pub known : Known w names pieces state

module _ {P : Type 0} {d : Dialect} {r : Reading} {Derives : Language P}
    (w : ReadsLanguage d r Derives) where
  -- ---- what is read is spelled so

  finishes : (l : NestingLimit) (s : r.State) (ts : List Lexeme) (a : r.Tree)
      (st : Step r.State r.Tree) → Good w.laws.Consumed r.Spells l st (ts ++ lexeme 0 word.End ∷ [])
      → follow st (λ s. run_of r.step l s []) ≡ Ok a → r.Spells l a ts
  unfolding run_of
  finishes l s ts a (go next) good e = absurd cc
  finishes l s ts a (done b) good e =
      let same : ts ≡ good.0 =
      (last_same ts good.0 (lexeme 0 word.End) (lexeme good.1 word.End) good.3).0 in
      let which : b ≡ a = cc in
      subst (λ v. r.Spells l v ts) which (subst (r.Spells l b) (sym same) good.2)
  finishes l s ts a (stop er) good e = absurd cc

  goes_on : (names : Texts) (l : NestingLimit) (us : List Piece) (ts : List Lexeme) (x : Piece)
      (st : Step r.State r.Tree) (a : r.Tree) → Good w.laws.Consumed r.Spells l st
      (ts ++ said d names x ∷ [])
      → ((s : r.State) → w.laws.Consumed l s (ts ++ said d names x ∷ [])
      → run_of r.step l s (ended d names us) ≡ Ok a
      → r.Spells l a ((ts ++ said d names x ∷ []) ++ map (said d names) us))
      → follow st (λ s. run_of r.step l s (ended d names us)) ≡ Ok a
      → r.Spells l a (ts ++ map (said d names) (x ∷ us))
  goes_on names l us ts x (go s) a good next e = subst (r.Spells l a)
      (append_assoc ts (said d names x ∷ []) (map (said d names) us)) (next s good e)
  goes_on names l us ts x (done b) a good next e = absurd
      (no_end d names x
      (ap (λ (y : Lexeme). y.token)
      (last_same ts good.0 (said d names x) (lexeme good.1 word.End) good.3).1))
  goes_on names l us ts x (stop er) a good next e = absurd cc

  sound_run : (names : Texts) (l : NestingLimit) (us : List Piece) (s : r.State) (ts : List Lexeme)
      (a : r.Tree) → w.laws.Consumed l s ts → run_of r.step l s (ended d names us) ≡ Ok a
      → r.Spells l a (ts ++ map (said d names) us)
  unfolding run_of
  sound_run names l [] s ts a h e = rw append-nil
      (finishes l s ts a (r.step l s 0 word.End) (w.laws.sound l s ts 0 word.End h) e)
  sound_run names l (x ∷ us) s ts a h e =
      let y = said d names x in
      goes_on names l us ts x (r.step l s y.at y.token) a (w.laws.sound l s ts y.at y.token h)
      (λ s. sound_run names l us s (ts ++ y ∷ []) a) e

  pub led_on : (l : NestingLimit) (names : Texts) (ts : List Piece) (s next : r.State) (x : Piece)
      → Led w l names ts s → r.step l s x.at (said d names x).token ≡ go next
      → Led w l names (ts ++ x ∷ []) next
  unfolding run_of
  led_on l names ts s next x h e =
      let y = said d names x in
      record {
        consumed = subst (w.laws.Consumed l next) (sym (map_push (said d names) ts x))
            (subst (λ st. Good w.laws.Consumed r.Spells l st (map (said d names) ts ++ y ∷ [])) e
            (w.laws.sound l s (map (said d names) ts) y.at y.token h.consumed));
        reach = λ rest. ap (λ v. run_of r.step l r.start (v ++ rest)) (map_push (said d names) ts x)
            ∙ ap (run_of r.step l r.start) (append_assoc (map (said d names) ts) (y ∷ []) rest) ∙
            h.reach (y ∷ rest) ∙ ap (λ st. follow st (λ s. run_of r.step l s rest)) e;
      }

  led_start : (l : NestingLimit) (names : Texts) → Led w l names [] r.start
  led_start l names = record { consumed = w.laws.begins l; reach = λ rest. refl }

  -- Something begins with what was read.
  pub viable : (l : NestingLimit) (names : Texts) (ts : List Piece) (s : r.State)
      → Led w l names ts s → Agrees d names ts → Viable Derives l ts
  viable l names ts s h agrees =
      let rest = w.laws.ending s in
      let all = names_of d (ts ++ rest) in
      let e = w.laws.ends all l s in
      let spelled : r.Spells l e.0 (map (said d names) ts ++ map (said d all) rest)
      = sound_run all l rest s (map (said d names) ts) e.0 h.consumed e.1 in
      let same : map (said d names) ts ++ map (said d all) rest ≡ map (said d all) (ts ++ rest)
      = ap (λ v. v ++ map (said d all) rest) (agrees ∙ sym (stable d ts rest)) ∙ sym
      (map_parts d all ts rest) in
      let p = w.made l e.0 (ts ++ rest) (subst (r.Spells l e.0) same spelled) in
      record { rest = rest; whole = p.0; is_program = p.1 }

  -- Nothing begins with it and a token at which the reading stops.
  pub stops : (l : NestingLimit) (names : Texts) (ts : List Piece) (s : r.State) (x : Piece)
      (er : ReadRefusal) → Led w l names ts s → Agrees d names (ts ++ x ∷ [])
      → r.step l s x.at (said d names x).token ≡ stop er → Viable Derives l (ts ++ x ∷ []) → ⊥
  unfolding run_of
  stops l names ts s x er h agrees e v =
      let all = ts ++ x ∷ [] in
      let own = names_of d (all ++ v.rest) in
      let y = said d names x in
      let named : map (said d own) all ≡ map (said d names) ts ++ y ∷ []
      = stable d all v.rest ∙ sym agrees ∙ map_push (said d names) ts x in
      let after = map (said d own) v.rest ++ lexeme 0 word.End ∷ [] in
      let regroup : map (said d own) (all ++ v.rest)
      ++ lexeme 0 word.End ∷ [] ≡ map (said d names) ts ++ (y ∷ after) =
      ap (λ u. u ++ lexeme 0 word.End ∷ [])
      (map_parts d own all v.rest ∙ ap (λ u. u ++ map (said d own) v.rest) named) ∙ simp
      append_assoc in
      let a = w.tree l v.whole (all ++ v.rest) v.is_program in
      let good : run_of r.step l r.start
      (map (said d own) (all ++ v.rest) ++ lexeme 0 word.End ∷ []) ≡ Ok a
      = w.laws.whole l a (map (said d own) (all ++ v.rest)) 0 []
      (w.spelled l v.whole (all ++ v.rest) v.is_program) in
      let bad : run_of r.step l r.start (map (said d own) (all ++ v.rest) ++ lexeme 0 word.End ∷ [])
      ≡ Err er = ap (run_of r.step l r.start) regroup ∙ h.reach (y ∷ after) ∙ ap
      (λ st. follow st (λ s. run_of r.step l s after)) e in
      cc

  -- Nothing has the tokens that were read, if the reading stops at their end.
  pub no_program : (names : Texts) (ts : List Piece) (s : r.State) (end : ℕ) (er : ReadRefusal)
      (p : P) → Led w unlimited_nesting names ts s → Agrees d names ts
      → r.step unlimited_nesting s end word.End ≡ stop er → Derives unlimited_nesting p ts → ⊥
  unfolding run_of
  no_program names ts s end er p h agrees e v =
      let own = names_of d ts in
      let a = w.tree unlimited_nesting p ts v in
      let good : run_of r.step unlimited_nesting r.start
      (map (said d own) ts ++ lexeme end word.End ∷ []) ≡ Ok a
      = w.laws.whole unlimited_nesting a (map (said d own) ts) end []
      (w.spelled unlimited_nesting p ts v) in
      let bad : run_of r.step unlimited_nesting r.start
      (map (said d own) ts ++ lexeme end word.End ∷ []) ≡ Err er =
      ap (λ u. run_of r.step unlimited_nesting r.start (u ++ lexeme end word.End ∷ [])) (sym agrees)
      ∙ h.reach (lexeme end word.End ∷ []) ∙ ap
      (λ st. follow st (λ s. run_of r.step unlimited_nesting s [])) e in
      cc

  -- ---- the answer and its cause

  abbrev pub Explained : Texts → List Piece → Lexeme → Result r.Tree ReadRefusal → Type 0
  Explained names pieces last (Ok a) = (last.token ≡ word.End)
      × r.Spells unlimited_nesting a (map (said d names) pieces) × (s : r.State)
      × Known w names pieces s
  Explained names pieces last (Err (BadByte at)) = (h : Halted w names pieces last at)
      × (last.token ≡ word.Bad)
  Explained names pieces last (Err (Syntax at)) =
      ((h : Halt w names pieces at) ×
      (r.step unlimited_nesting h.state h.here.at (said d names h.here).token ≡ stop
      (Syntax at)))
      ⊎ ((h : Halted w names pieces last at) × (last.token ≡ word.Bad → ⊥)
      × (r.step unlimited_nesting h.state last.at last.token ≡ stop (Syntax at)))
  Explained names pieces last (Err (NumberRange at)) = (h : Halted w names pieces last at)
      × (minus : Bool) × (last.token ≡ word.Large minus)
      × (r.step unlimited_nesting h.state last.at last.token ≡ stop (NumberRange at))
  Explained names pieces last (Err (TooDeep at)) =
      (h : Halt w names pieces at) × (next : r.State)
      × (r.step unlimited_nesting h.state h.here.at (said d names h.here).token ≡ go next)
      × (r.step at_most_200 h.state h.here.at (said d names h.here).token ≡ stop (TooDeep at))
      × IsOpening (said d names h.here).token
  Explained names pieces last (Err TextTooLong) = ⊥
  Explained names pieces last (Err (Memory e)) = ⊥

  at_last : (names : Texts) (ts : List Piece) (s : r.State) (last : Lexeme)
      (st : Step r.State r.Tree) → Known w names ts s → IsLast last.token
      → r.step at_most_200 s last.at last.token ≡ st → Verdict r.step s last.at last.token st
      → Explained names ts last (follow st (λ s. run_of r.step at_most_200 s []))
  at_last names ts s last (go next) h l e v = absurd
      (w.laws.last_stays s next last.at last.token l e)
  at_last names ts s last (done a) h l e v =
      let good : Good w.laws.Consumed r.Spells unlimited_nesting (done a)
      (map (said d names) ts ++ last ∷ []) = subst
      (λ st. Good w.laws.Consumed r.Spells unlimited_nesting st
      (map (said d names) ts ++ last ∷ [])) v
      (w.laws.sound unlimited_nesting s (map (said d names) ts) last.at last.token h.p.consumed)
      in (
        w.laws.done_last s last.at last.token a e,
        subst (r.Spells unlimited_nesting a)
            (sym (last_same (map (said d names) ts) good.0 last (lexeme good.1 word.End) good.3).0)
            good.2,
        s,
        h,
      )
  at_last names ts s last (stop (BadByte p)) h l e v
      = (record { place = v.0; state = s; known = h }, v.1)
  at_last names ts s last (stop (Syntax p)) h l e v
      = inr (record { place = v.0; state = s; known = h }, v.2, v.1)
  at_last names ts s last (stop (NumberRange p)) h l e v
      = (record { place = v.0; state = s; known = h }, v.1, v.2, v.3)
  at_last names ts s last (stop (TooDeep p)) h l e v = absurd (opening_last last.token v.3 l)
  at_last names ts s last (stop TextTooLong) h l e v = absurd v
  at_last names ts s last (stop (Memory er)) h l e v = absurd v

  by_step : (names : Texts) (ts us : List Piece) (last : Lexeme) (s : r.State) (x : Piece)
      (st : Step r.State r.Tree) → Known w names ts s → ((said d names x).token ≡ word.Bad → ⊥)
      → r.step at_most_200 s x.at (said d names x).token ≡ st
      → Verdict r.step s x.at (said d names x).token st
      → ((next : r.State) → Known w names (ts ++ x ∷ []) next
      → Explained names ((ts ++ x ∷ []) ++ us) last
      (run_of r.step at_most_200 next (map (said d names) us ++ last ∷ [])))
      → Explained names (ts ++ (x ∷ us)) last
      (follow st (λ s. run_of r.step at_most_200 s (map (said d names) us ++ last ∷ [])))
  by_step names ts us last s x (go next) h real e v later =
      let known : Known w names (ts ++ x ∷ []) next
      = record {
        b = led_on at_most_200 names ts s next x h.b e;
        p
            = led_on unlimited_nesting names ts s next x h.p v;
      } in
      subst (λ u. Explained names u last
      (run_of r.step at_most_200 next (map (said d names) us ++ last ∷ [])))
      (append_assoc ts (x ∷ []) us) (later next known)
  by_step names ts us last s x (done a) h real e v later
      = absurd (no_end d names x (w.laws.done_last s x.at (said d names x).token a e))
  by_step names ts us last s x (stop (BadByte p)) h real e v later = absurd (real v.1)
  by_step names ts us last s x (stop (Syntax p)) h real e v later
      = inl (
        record
            { before = ts; here = x; after = us; whole = refl; place = v.0; state = s; known = h },
        v.1,
      )
  by_step names ts us last s x (stop (NumberRange p)) h real e v later
      = absurd (no_large d names x v.1 v.2)
  by_step names ts us last s x (stop (TooDeep p)) h real e v later
      = (
        record
            { before = ts; here = x; after = us; whole = refl; place = v.0; state = s; known = h },
        v.1,
        v.2,
        e,
        v.3,
      )
  by_step names ts us last s x (stop TextTooLong) h real e v later = absurd v
  by_step names ts us last s x (stop (Memory er)) h real e v later = absurd v

  explains_from : (names : Texts) (us ts : List Piece) (last : Lexeme) (s : r.State)
      → Known w names ts s → AreTokens d names us → IsLast last.token
      → Explained names (ts ++ us) last
      (run_of r.step at_most_200 s (map (said d names) us ++ last ∷ []))
  unfolding run_of
  explains_from names [] ts last s h real l =
      subst (λ u. Explained names u last
      (follow (r.step at_most_200 s last.at last.token) (λ s. run_of r.step at_most_200 s [])))
      (sym (append-nil ts))
      (at_last names ts s last (r.step at_most_200 s last.at last.token) h l refl
      (w.laws.judged s last.at last.token))
  explains_from names (x ∷ us) ts last s h real l =
      let y = said d names x in
      by_step names ts us last s x (r.step at_most_200 s y.at y.token) h real.0 refl
      (w.laws.judged s y.at y.token)
      (λ next known. explains_from names us (ts ++ x ∷ []) last next known real.1 l)

  -- Each answer has its cause.
  pub explains : (names : Texts) (pieces : List Piece) (last : Lexeme) → AreTokens d names pieces
      → IsLast last.token → Explained names pieces last
      (run_of r.step at_most_200 r.start (map (said d names) pieces ++ last ∷ []))
  explains names pieces last real l =
      explains_from names pieces [] last r.start
      (record { b = led_start at_most_200 names; p = led_start unlimited_nesting names }) real l
