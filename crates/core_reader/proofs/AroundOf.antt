-- A text in which expressions of Core stand: what is owed of what stands around them, and that the
-- whole reading then owes what a reading of a text does.
use Rattle.std.proofs.Common.{◌≡◌, ℕ, Bool, false, List, [], ◌∷◌, ◌++◌, Result, Ok, Err, refl, sym, ap, subst, ◌∙◌, append_assoc, map}
use Rattle.std.specs.Prelude.{ℤ, pos}
use Rattle.std.proofs.lemmas.List.{append-nil}
use Rattle.core_reader.specs.declared.dialect.Dialect.{Dialect}
use Rattle.core_reader.specs.declared.token.Token.{Token}
use Rattle.core_reader.specs.declared.token.Token.TheVariants as word
use Rattle.core_reader.specs.declared.token.Lexeme.{Lexeme}
use Rattle.core_reader.specs.declared.refusal.ReadRefusal.{ReadRefusal}
use Rattle.core_reader.specs.declared.refusal.ReadRefusal.TheVariants.{BadByte, Syntax, NumberRange, TooDeep, TextTooLong, Memory}
use Rattle.core_reader.specs.Tree.{Expr, NoTerms}
use Rattle.core_reader.specs.Grammar.{NestingLimit, unlimited_nesting, at_most_200, lexeme, SpellsExpr}
use Rattle.core_reader.specs.TokensOf.{Piece}
use Rattle.core_reader.specs.WordsOf.{said}
use Rattle.core_reader.specs.ReadingOf.{Step, go, done, stop, follow, run_of}
use Rattle.core_reader.specs.Machine as expression
use Rattle.core_reader.specs.Machine.{run, Outermost, InBody, Apply, Ended, Found, front, behind, starts_atom}
use Rattle.core_reader.specs.AroundOf.{Move, next, enter, all, refuse, ExpressionContext, ContextState, Outside, Within, step_of_move, within, steps, context_reading}
use Rattle.core_reader.proofs.NamingOf.{Texts}
use Rattle.core_reader.proofs.ReadingOf.{IsLast, ended, Good, Verdict, Plain, Accepts, Laws}
use Rattle.core_reader.proofs.Sound as sound
use Rattle.core_reader.proofs.Taking.{IsBad, is_bad}
use Rattle.core_reader.proofs.Ending as ending
use Rattle.core_reader.proofs.Explains.{map_parts, last_same}
use Rattle.core_reader.proofs.Judging as expr

-- What was read is what the next state knows, or spells what is answered.
abbrev pub GoodMove : {O H A : Type 0} → (O → List Lexeme → Type 0) → (H → List Lexeme → Type 0)
    → (A → List Lexeme → Type 0) → Move O H A → List Lexeme → Type 0
GoodMove Known Opens Spells (next o) ts = Known o ts
GoodMove Known Opens Spells (enter h) ts = Opens h ts
GoodMove Known Opens Spells (all a) ts = (us : List Lexeme) × (end : ℕ) × Spells a us
    × (ts ≡ us ++ lexeme end word.End ∷ [])
GoodMove Known Opens Spells (refuse e) ts = Unit {0}

abbrev pub PlainMove : {O H A : Type 0} → ℕ → Token → Move O H A → Type 0
PlainMove at token (next o) = Unit {0}
PlainMove at token (enter h) = Unit {0}
PlainMove at token (all a) = Unit {0}
PlainMove at token (refuse e) = Plain {S = expression.State} {A = Expr} at token (stop e)

-- nothing is read behind the token
abbrev pub LastMove : {O H A : Type 0} → Move O H A → Type 0
LastMove (next o) = ⊥
LastMove (enter h) = ⊥
LastMove (all a) = Unit {0}
LastMove (refuse e) = Unit {0}

-- all was read at the end alone
abbrev pub EndMove : {O H A : Type 0} → Token → Move O H A → Type 0
EndMove token (all a) = token ≡ word.End
EndMove token m = Unit {0}

pub record AroundLaws (d : Dialect) (r : ExpressionContext) : Type 1 where
  -- the tokens before a state, and before the expression at a place
  pub Known : NestingLimit → r.Own → List Lexeme → Type 0
  pub Opens : NestingLimit → r.Hole → List Lexeme → Type 0
  pub begins : (l : NestingLimit) → Known l r.start []
  pub sound : (l : NestingLimit) (o : r.Own) (ts : List Lexeme) (at : ℕ) (token : Token)
      → Known l o ts → GoodMove (Known l) (Opens l) (r.Spells l) (r.step l o at token)
      (ts ++ lexeme at token ∷ [])
  pub sound_give : (l : NestingLimit) (h : r.Hole) (e : Expr) (us vs : List Lexeme) (at : ℕ)
      (token : Token) → Opens l h us → SpellsExpr l 0 e vs
      → GoodMove (Known l) (Opens l) (r.Spells l) (r.give h e at token)
      ((us ++ vs) ++ lexeme at token ∷ [])
  -- tokens that complete what was read, the first of which, behind an expression, goes on with none
  pub closing : r.Own → List Piece
  pub closes : (names : Texts) (l : NestingLimit) (o : r.Own) → (a : r.Whole)
      × (run_of (steps r) l (Outside o) (ended d names (closing o)) ≡ Ok a)
  pub first : r.Hole → Piece
  pub others : r.Hole → List Piece
  pub goes_on : (names : Texts) (h : r.Hole) → starts_atom (said d names (first h)).token ≡ false
  pub gives : (names : Texts) (l : NestingLimit) (h : r.Hole) (e : Expr) → (a : r.Whole)
      × (run_of (steps r) l (Within h (Ended Outermost e))
      (said d names (first h) ∷ ended d names (others h)) ≡ Ok a)
  pub whole : (l : NestingLimit) (a : r.Whole) (ts : List Lexeme) (end : ℕ) (rest : List Lexeme)
      → r.Spells l a ts → run_of (steps r) l (Outside r.start) (ts ++ lexeme end word.End ∷ rest) ≡
      Ok a
  pub judged : (o : r.Own) (at : ℕ) (token : Token)
      → Verdict (steps r) (Outside o) at token (step_of_move (r.step at_most_200 o at token))
  pub plain_give : (h : r.Hole) (e : Expr) (at : ℕ) (token : Token)
      → PlainMove at token (r.give h e at token)
  pub give_bad : (h : r.Hole) (e : Expr) (at : ℕ) → r.give h e at word.Bad ≡ refuse (BadByte at)
  -- where an integer out of the range may stand, that number may
  pub large_goes : (o : r.Own) (at p : ℕ) (minus : Bool) (v : ℤ)
      → r.step unlimited_nesting o at (word.Large minus) ≡ refuse (NumberRange p)
      → (minus ≡ false → (n : ℕ) × (v ≡ pos n)) → (o' : r.Own)
      × (r.step unlimited_nesting o at (word.Number minus v) ≡ next o')
  pub large_stops : (o : r.Own) (at p : ℕ) (minus : Bool) (v : ℤ)
      → r.step unlimited_nesting o at (word.Large minus) ≡ refuse (Syntax p)
      → r.step unlimited_nesting o at (word.Number minus v) ≡ refuse (Syntax p)
  pub give_range : (h : r.Hole) (e : Expr) (at p : ℕ) (minus : Bool)
      → r.give h e at (word.Large minus) ≡ refuse (NumberRange p) → ⊥
  pub give_stops : (h : r.Hole) (e : Expr) (at p : ℕ) (minus : Bool) (v : ℤ)
      → r.give h e at (word.Large minus) ≡ refuse (Syntax p)
      → r.give h e at (word.Number minus v) ≡ refuse (Syntax p)
  pub last : (o : r.Own) (at : ℕ) (token : Token) → IsLast token
      → LastMove (r.step at_most_200 o at token)
  pub last_give : (h : r.Hole) (e : Expr) (at : ℕ) (token : Token) → IsLast token
      → LastMove (r.give h e at token)
  pub end : (o : r.Own) (at : ℕ) (token : Token) → EndMove token (r.step at_most_200 o at token)
  pub end_give : (h : r.Hole) (e : Expr) (at : ℕ) (token : Token)
      → EndMove token (r.give h e at token)

moved_stop : {O H A : Type 0} (m : Move O H A) (e : ReadRefusal) → step_of_move m ≡ stop e
    → m ≡ refuse e
moved_stop (next o) e h = absurd cc
moved_stop (enter x) e h = absurd cc
moved_stop (all a) e h = absurd cc
moved_stop (refuse er) e h = let f : er ≡ e = cc in ap refuse f

moved_stays : {O H A : Type 0} (m : Move O H A) (n : ContextState O H) → LastMove m
    → step_of_move m ≡ go n → ⊥
moved_stays (next o) n l h = l
moved_stays (enter x) n l h = l
moved_stays (all a) n l h = cc
moved_stays (refuse er) n l h = cc

moved_end : {O H A : Type 0} (token : Token) (m : Move O H A) (a : A) → EndMove token m
    → step_of_move m ≡ done a → token ≡ word.End
moved_end token (next o) a l h = absurd cc
moved_end token (enter x) a l h = absurd cc
moved_end token (all b) a l h = l
moved_end token (refuse er) a l h = absurd cc

-- the answer behind an expression
abbrev pub continue : (r : ExpressionContext) → NestingLimit → r.Hole → Result Found ReadRefusal
    → Result r.Whole ReadRefusal
continue r l h (Ok x) = follow
    (step_of_move (r.give h x.expr (front x.rest).at (front x.rest).token))
    (λ s. run_of (steps r) l s (behind x.rest))
continue r l h (Err e) = Err e

module _ (r : ExpressionContext) where
  move_judged : (y : ContextState r.Own r.Hole) (at : ℕ) (token : Token)
      (m : Move r.Own r.Hole r.Whole) → steps r unlimited_nesting y at token ≡ step_of_move m
      → PlainMove at token m → Verdict (steps r) y at token (step_of_move m)
  move_judged y at token (next o) e p = e
  move_judged y at token (enter h) e p = e
  move_judged y at token (all a) e p = e
  move_judged y at token (refuse (BadByte q)) e p = p
  move_judged y at token (refuse (Syntax q)) e p = (p.0, e, p.1)
  move_judged y at token (refuse (NumberRange q)) e p = (p.0, p.1, p.2, e)
  move_judged y at token (refuse (TooDeep q)) e p = absurd p
  move_judged y at token (refuse TextTooLong) e p = p
  move_judged y at token (refuse (Memory er)) e p = p

  -- where no limit counts
  pub by_move : (o : r.Own) (at : ℕ) (token : Token) (m : Move r.Own r.Hole r.Whole)
      → r.step unlimited_nesting o at token ≡ m → PlainMove at token m
      → Verdict (steps r) (Outside o) at token (step_of_move m)
  by_move o at token m e p = move_judged (Outside o) at token m (ap step_of_move e) p

whole_expr : (l : NestingLimit) (e : Expr) (x : Lexeme) (rest : List Lexeme)
    → run l (Ended Outermost e) (x ∷ rest) ≡ Ok (record { expr = e; rest = x ∷ rest })
unfolding run
whole_expr l e x rest = refl

module _ (r : ExpressionContext)
    (give_bad : (h : r.Hole) (e : Expr) (at : ℕ) → r.give h e at word.Bad ≡ refuse (BadByte at))
  where
    at_bad : (l : NestingLimit) (h : r.Hole) (st : expression.Step)
        (f : expression.State → Result Found ReadRefusal) → IsBad 0 st
        → Err (BadByte 0) ≡ continue r l h (expression.follow st [] f)
    at_bad l h (go s) f b = absurd b
    at_bad l h (done e) f b = sym
        (ap (λ m. follow (step_of_move m) (λ s. run_of (steps r) l s [])) (give_bad h e 0))
    at_bad l h (stop er) f b = ap Err (sym b)

    on_step : (l : NestingLimit) (h : r.Hole) (t : Lexeme) (ts : List Lexeme) (st : expression.Step)
        → ((s : expression.State) → run_of (steps r) l (Within h s) ts ≡ continue r l h (run l s ts))
        → follow (within r.give h t.at t.token st) (λ s. run_of (steps r) l s ts) ≡ continue r l h
        (expression.follow st (t ∷ ts) (λ s. run l s ts))
    on_step l h t ts (go s) later = later s
    on_step l h t ts (done e) later = refl
    on_step l h t ts (stop er) later = refl

    -- An expression is read in the text as it is alone.
    pub through : (l : NestingLimit) (h : r.Hole) (s : expression.State) (ts : List Lexeme)
        → run_of (steps r) l (Within h s) ts ≡ continue r l h (run l s ts)
    unfolding run_of run
    through l h s [] = at_bad l h (expression.step l s 0 word.Bad) (λ s. Err (BadByte 0))
        (is_bad l s 0)
    through l h s (t ∷ ts) = on_step l h t ts (expression.step l s t.at t.token)
        (λ s. through l h s ts)

module _ {d : Dialect} {r : ExpressionContext} (w : AroundLaws d r) where
  abbrev KnownAll : NestingLimit → ContextState r.Own r.Hole → List Lexeme → Type 0
  KnownAll l (Outside o) ts = w.Known l o ts
  KnownAll l (Within h s) ts = (us vs : List Lexeme) × w.Opens l h us × sound.Consumed l s vs
      × (ts ≡ us ++ vs)

  abbrev GoodAll : NestingLimit → Step (ContextState r.Own r.Hole) r.Whole → List Lexeme → Type 0
  GoodAll l st ts = Good KnownAll r.Spells l st ts

  opened_good : (l : NestingLimit) → sound.Consumed l (Apply (InBody Outermost) NoTerms) []
  opened_good l = ([], [], refl, refl, refl)

  move_good : (l : NestingLimit) (m : Move r.Own r.Hole r.Whole) (ts : List Lexeme)
      → GoodMove (w.Known l) (w.Opens l) (r.Spells l) m ts → GoodAll l (step_of_move m) ts
  move_good l (next o) ts g = g
  move_good l (enter h) ts g = (ts, [], g, opened_good l, sym (append-nil ts))
  move_good l (all a) ts g = g
  move_good l (refuse e) ts g = tt

  -- what an expression's token does
  within_good : (l : NestingLimit) (h : r.Hole) (us vs : List Lexeme) (at : ℕ) (token : Token)
      (st : expression.Step) → w.Opens l h us → sound.Good l st (vs ++ lexeme at token ∷ [])
      → GoodAll l (within r.give h at token st) ((us ++ vs) ++ lexeme at token ∷ [])
  within_good l h us vs at token (go s) k g =
      (us, vs ++ lexeme at token ∷ [], k, g, append_assoc us vs (lexeme at token ∷ []))
  within_good l h us vs at token (done e) k g =
      let same : vs ≡ g.0 = (last_same vs g.0 (lexeme at token) g.1 g.3).0 in
      move_good l (r.give h e at token) ((us ++ vs) ++ lexeme at token ∷ [])
      (w.sound_give l h e us vs at token k (subst (SpellsExpr l 0 e) (sym same) g.2))
  within_good l h us vs at token (stop er) k g = tt

  sound_all : (l : NestingLimit) (s : ContextState r.Own r.Hole) (ts : List Lexeme) (at : ℕ)
      (token : Token) → KnownAll l s ts → GoodAll l (steps r l s at token)
      (ts ++ lexeme at token ∷ [])
  sound_all l (Outside o) ts at token k = move_good l (r.step l o at token)
      (ts ++ lexeme at token ∷ []) (w.sound l o ts at token k)
  sound_all l (Within h s) ts at token k =
      subst (λ v. GoodAll l (within r.give h at token (expression.step l s at token))
      (v ++ lexeme at token ∷ [])) (sym k.4)
      (within_good l h k.0 k.1 at token (expression.step l s at token) k.2
      (sound.sound_step l s k.1 at token k.3))

  ending_all : ContextState r.Own r.Hole → List Piece
  ending_all (Outside o) = w.closing o
  ending_all (Within h s) = ending.ending s ++ (w.first h ∷ w.others h)

  ends_all : (names : Texts) (l : NestingLimit) (s : ContextState r.Own r.Hole) → (a : r.Whole)
      × (run_of (steps r) l s (ended d names (ending_all s)) ≡ Ok a)
  unfolding ending_all
  ends_all names l (Outside o) = w.closes names l o
  ends_all names l (Within h s) =
      let x = said d names (w.first h) in
      let rest = ended d names (w.others h) in
      let e = ending.ends d names x rest (w.goes_on names h) l s in
      let g = w.gives names l h e.0 in
      let us = map (said d names) (ending.ending s) in
      let regroup : ended d names (ending.ending s ++ (w.first h ∷ w.others h)) ≡ us ++ x ∷ rest =
      ap (λ v. v ++ lexeme 0 word.End ∷ [])
      (map_parts d names (ending.ending s) (w.first h ∷ w.others h)) ∙ append_assoc us
      (x ∷ map (said d names) (w.others h)) (lexeme 0 word.End ∷ []) in (
        g.0,
        ap (run_of (steps r) l (Within h s)) regroup ∙ through r w.give_bad l h s
            (us ++ x ∷ rest) ∙ ap (continue r l h) (e.1 ∙ sym (whole_expr l e.0 x rest)) ∙ sym
            (through r w.give_bad l h (Ended Outermost e.0) (x ∷ rest)) ∙ g.1,
      )

  within_judged : (h : r.Hole) (s : expression.State) (at : ℕ) (token : Token)
      (st : expression.Step) → Verdict expression.step s at token st
      → Verdict (steps r) (Within h s) at token (within r.give h at token st)
  within_judged h s at token (go n) v = ap (within r.give h at token) v
  within_judged h s at token (done e) v = move_judged r (Within h s) at token (r.give h e at token)
      (ap (within r.give h at token) v) (w.plain_give h e at token)
  within_judged h s at token (stop (BadByte p)) v = v
  within_judged h s at token (stop (Syntax p)) v = (v.0, ap (within r.give h at token) v.1, v.2)
  within_judged h s at token (stop (NumberRange p)) v
      = (v.0, v.1, v.2, ap (within r.give h at token) v.3)
  within_judged h s at token (stop (TooDeep p)) v =
      (v.0, Within h v.1, ap (within r.give h at token) v.2, v.3)
  within_judged h s at token (stop TextTooLong) v = v
  within_judged h s at token (stop (Memory er)) v = v

  judged_all : (s : ContextState r.Own r.Hole) (at : ℕ) (token : Token)
      → Verdict (steps r) s at token (steps r at_most_200 s at token)
  judged_all (Outside o) at token = w.judged o at token
  judged_all (Within h s) at token = within_judged h s at token
      (expression.step at_most_200 s at token) (expr.judged s at token)

  goes_by : (h : r.Hole) (s : expression.State) (at p : ℕ) (minus : Bool) (v : ℤ)
      (st : expression.Step) → expression.step unlimited_nesting s at (word.Large minus) ≡ st
      → within r.give h at (word.Large minus) st ≡ stop (NumberRange p)
      → (minus ≡ false → (n : ℕ) × (v ≡ pos n)) → Accepts (steps r) (Within h s) at minus v
  goes_by h s at p minus v (go n) e f k = absurd cc
  goes_by h s at p minus v (done x) e f k = absurd
      (w.give_range h x at p minus
      (moved_stop (r.give h x at (word.Large minus)) (NumberRange p) f))
  goes_by h s at p minus v (stop er) e f k =
      let range : er ≡ NumberRange p = cc in
      let g = expr.large_goes s at p minus v (e ∙ ap stop range) k in
      (Within h g.0, ap (within r.give h at (word.Number minus v)) g.1)

  goes_all : (s : ContextState r.Own r.Hole) (at p : ℕ) (minus : Bool) (v : ℤ)
      → steps r unlimited_nesting s at (word.Large minus) ≡ stop (NumberRange p)
      → (minus ≡ false → (n : ℕ) × (v ≡ pos n)) → Accepts (steps r) s at minus v
  goes_all (Outside o) at p minus v e k =
      let g = w.large_goes o at p minus v
      (moved_stop (r.step unlimited_nesting o at (word.Large minus)) (NumberRange p) e) k in
      (Outside g.0, ap step_of_move g.1)
  goes_all (Within h s) at p minus v e k = goes_by h s at p minus v
      (expression.step unlimited_nesting s at (word.Large minus)) refl e k

  stops_by : (h : r.Hole) (s : expression.State) (at p : ℕ) (minus : Bool) (v : ℤ)
      (st : expression.Step) → expression.step unlimited_nesting s at (word.Large minus) ≡ st
      → within r.give h at (word.Large minus) st ≡ stop (Syntax p)
      → steps r unlimited_nesting (Within h s) at (word.Number minus v) ≡ stop (Syntax p)
  stops_by h s at p minus v (go n) e f = absurd cc
  stops_by h s at p minus v (done x) e f =
      ap (within r.give h at (word.Number minus v)) (expr.large_done s at minus v x e) ∙ ap
      step_of_move
      (w.give_stops h x at p minus v
      (moved_stop (r.give h x at (word.Large minus)) (Syntax p) f))
  stops_by h s at p minus v (stop er) e f =
      let syntax : er ≡ Syntax p = cc in
      ap (within r.give h at (word.Number minus v))
      (expr.large_stops s at p minus v (e ∙ ap stop syntax))

  stops_all : (s : ContextState r.Own r.Hole) (at p : ℕ) (minus : Bool) (v : ℤ)
      → steps r unlimited_nesting s at (word.Large minus) ≡ stop (Syntax p)
      → steps r unlimited_nesting s at (word.Number minus v) ≡ stop (Syntax p)
  stops_all (Outside o) at p minus v e = ap step_of_move
      (w.large_stops o at p minus v
      (moved_stop (r.step unlimited_nesting o at (word.Large minus)) (Syntax p) e))
  stops_all (Within h s) at p minus v e = stops_by h s at p minus v
      (expression.step unlimited_nesting s at (word.Large minus)) refl e

  stays_by : (h : r.Hole) (s : expression.State) (n : ContextState r.Own r.Hole) (at : ℕ)
      (token : Token) (st : expression.Step) → expression.step at_most_200 s at token ≡ st
      → IsLast token → within r.give h at token st ≡ go n → ⊥
  stays_by h s n at token (go m) e l f = expr.last_stays s m at token l e
  stays_by h s n at token (done x) e l f = moved_stays (r.give h x at token) n
      (w.last_give h x at token l) f
  stays_by h s n at token (stop er) e l f = cc

  stays_all : (s n : ContextState r.Own r.Hole) (at : ℕ) (token : Token) → IsLast token
      → steps r at_most_200 s at token ≡ go n → ⊥
  stays_all (Outside o) n at token l e = moved_stays (r.step at_most_200 o at token) n
      (w.last o at token l) e
  stays_all (Within h s) n at token l e = stays_by h s n at token
      (expression.step at_most_200 s at token) refl l e

  done_by : (h : r.Hole) (at : ℕ) (token : Token) (a : r.Whole) (st : expression.Step)
      → within r.give h at token st ≡ done a → token ≡ word.End
  done_by h at token a (go m) e = absurd cc
  done_by h at token a (done x) e = moved_end token (r.give h x at token) a
      (w.end_give h x at token) e
  done_by h at token a (stop er) e = absurd cc

  done_all : (s : ContextState r.Own r.Hole) (at : ℕ) (token : Token) (a : r.Whole)
      → steps r at_most_200 s at token ≡ done a → token ≡ word.End
  done_all (Outside o) at token a e = moved_end token (r.step at_most_200 o at token) a
      (w.end o at token) e
  done_all (Within h s) at token a e = done_by h at token a (expression.step at_most_200 s at token)
      e

  pub around_laws : Laws d (context_reading r)
  around_laws = record {
    Consumed = KnownAll;
    begins = w.begins;
    sound = sound_all;
    ending = ending_all;
    ends = ends_all;
    whole = w.whole;
    judged = judged_all;
    large_goes = goes_all;
    large_stops = stops_all;
    last_stays = stays_all;
    done_last = done_all;
  }
