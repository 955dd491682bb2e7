-- Which rule a text of a language breaks first, whatever reads it: a reader owes that something
-- goes
-- on with the tokens that it read, and nothing with those and the one at which it stops.
use Rattle.std.proofs.Common.{◌≡◌, ℕ, ◌+◌, ◌≤◌, List, [], ◌∷◌, ◌++◌, length, take, drop, Some, refl, sym, ap, subst, ◌∙◌, arith, inl, inr, append_assoc}
use Rattle.std.specs.Prelude.{◌≢◌}
use Rattle.std.proofs.lemmas.List.{append-nil}
use Rattle.core_reader.specs.declared.dialect.Dialect.{Dialect}
use Rattle.core_reader.specs.declared.look.TokenKind.TheVariants.{Digits}
use Rattle.core_reader.specs.Grammar.{NestingLimit, unlimited_nesting, at_most_200}
use Rattle.core_reader.specs.TokensOf.{Piece, Reads, Stops, Takes, Longest, NothingBegins, kind_of}
use Rattle.core_reader.specs.WordsOf.{written_number, IsInRange}
use Rattle.core_reader.specs.NamesOf.{names_of, with_piece}
use Rattle.core_reader.specs.ProgramsOf.{Language, Viable}
use Rattle.core_reader.specs.RulesOf.{BeginsWith, IsBadByte, AtToken, AtEnd, IsUnread, BadByte, Syntax, NumberRange, TooDeep, TextTooLong, IsNoLaterFault, IsFirstUnread}
use Rattle.core_reader.specs.LexedOf.{AreInRange}
use Rattle.core_reader.proofs.NamingOf.{Texts, fold_append}
use Rattle.core_reader.proofs.Unique.{Stopped, Reading, goes_on, split, ascends, before_end, ends_at, reading, stuck, join}

-- ---- two places of one list

data Order (us : List Piece) (x : Piece) (ws : List Piece) (y : Piece) : Type 0 where
  Earlier : (m : List Piece) → ws ≡ us ++ (x ∷ m) → Order us x ws y
  Same : us ≡ ws → x ≡ y → Order us x ws y
  Later : (m : List Piece) → us ≡ ws ++ (y ∷ m) → Order us x ws y

one_more : (u w : Piece) (us : List Piece) (x : Piece) (ws : List Piece) (y : Piece) → u ≡ w
    → Order us x ws y → Order (u ∷ us) x (w ∷ ws) y
one_more u w us x ws y e (Earlier m h) = Earlier m (λ i. sym e i ∷ h i)
one_more u w us x ws y e (Same h g) = Same (λ i. e i ∷ h i) g
one_more u w us x ws y e (Later m h) = Later m (λ i. e i ∷ h i)

order : (us : List Piece) (x : Piece) (vs ws : List Piece) (y : Piece) (zs : List Piece) → us
    ++ (x ∷ vs) ≡ ws ++ (y ∷ zs) → Order us x ws y
order [] x vs [] y zs e = Same refl cc
order [] x vs (w ∷ ws) y zs e = let h : w ≡ x = cc in Earlier ws (ap (λ v. v ∷ ws) h)
order (u ∷ us) x vs [] y zs e = let h : u ≡ y = cc in Later us (ap (λ v. v ∷ us) h)
order (u ∷ us) x vs (w ∷ ws) y zs e =
    let h : u ≡ w = cc in
    let t : us ++ (x ∷ vs) ≡ ws ++ (y ∷ zs) = cc in
    one_more u w us x ws y h (order us x vs ws y zs t)

pub one_last : (us : List Piece) (x : Piece) (vs : List Piece) → (us ++ x ∷ []) ++ vs ≡ us
    ++ (x ∷ vs)
one_last us x vs = append_assoc us (x ∷ []) vs

-- ---- what was read breaks no rule

-- tokens that break no rule
pub record Clear {P : Type 0} (d : Dialect) (Derives : Language P) (ts : List Piece) : Type 0 where
  pub some : Viable Derives unlimited_nesting ts
  pub shallow : Viable Derives at_most_200 ts
  pub small : AreInRange d ts

-- a rule that is broken at a token
data AtPiece {P : Type 0} (d : Dialect) (Derives : Language P) (us : List Piece) (x : Piece) : ℕ
    → Type 0 where
  NoProgram : (Viable Derives unlimited_nesting (us ++ x ∷ []) → ⊥) → AtPiece d Derives us x 2
  Outside : kind_of d x.bytes ≡ Some Digits → (IsInRange (written_number x.bytes) → ⊥)
      → AtPiece d Derives us x 3
  Deep : (Viable Derives at_most_200 (us ++ x ∷ []) → ⊥) → AtPiece d Derives us x 4

-- Where a rule is broken: at a token of the text, at a bad byte, or at its end.
data Where {P : Type 0} (d : Dialect) (Derives : Language P) (text : List ℕ) (k at : ℕ)
    : Type 0 where
  OnPiece : (before : List Piece) (here : Piece) → BeginsWith d text before here at
      → AtPiece d Derives before here k → k ≢ 5 → Where d Derives text k at
  OnByte : k ≡ 1 → IsBadByte d text at → Where d Derives text k at
  OnEnd : k ≡ 2 → at ≡ length text → (pieces : List Piece) → Reads d 0 text pieces (length text) []
      → Where d Derives text k at

-- the whole reading of the text, to where it stops
pub record Full (d : Dialect) (text : List ℕ) (all : List Piece) (end : ℕ) (rest : List ℕ)
    : Type 0 where
  pub reads : Reads d 0 text all end rest
  pub stop : Stopped d rest

-- No rule is broken before a token up to which nothing is.
record Here {P : Type 0} (d : Dialect) (Derives : Language P) (k : ℕ) (us : List Piece) (x : Piece)
    : Type 0 where
  syntax : (Viable Derives unlimited_nesting (us ++ x ∷ []) → ⊥) → k ≤ 2
  range : kind_of d x.bytes ≡ Some Digits → k ≤ 3
  any : k ≤ 4

-- the tokens that were read before the reading stopped, and the whole reading
pub record ReadText (d : Dialect) (text : List ℕ) (pieces : List Piece) (at : ℕ) (rest : List ℕ)
    (names : Texts) : Type 0 where
  pub short : length text ≤ 1048576
  pub reads : Reads d 0 text pieces at rest
  pub named : names ≡ names_of d pieces
  pub in_range : AreInRange d pieces

-- an integer out of the range behind the tokens that were read
pub record Large (d : Dialect) (text : List ℕ) (pieces : List Piece) (at : ℕ) (rest : List ℕ)
    (names : Texts) (x : Piece) : Type 0 where
  pub place : x.at ≡ at
  pub digits : kind_of d x.bytes ≡ Some Digits
  pub outside : IsInRange (written_number x.bytes) → ⊥
  pub end : ℕ
  pub tail : List ℕ
  pub reads : Reads d 0 text (pieces ++ x ∷ []) end tail
  pub named : names ≡ names_of d (pieces ++ x ∷ [])

module _ {P : Type 0} {Derives : Language P} where
  viable_front : (l : NestingLimit) (us vs : List Piece) → Viable Derives l (us ++ vs)
      → Viable Derives l us
  viable_front l us vs v = record {
    rest = vs ++ v.rest;
    whole = v.whole;
    is_program
        = subst (Derives l v.whole) (append_assoc us vs v.rest) v.is_program;
  }

  front_of : (l : NestingLimit) (ts us : List Piece) (x : Piece) (m : List Piece)
      → Viable Derives l ts → ts ≡ us ++ (x ∷ m) → Viable Derives l (us ++ x ∷ [])
  front_of l ts us x m v e = viable_front l (us ++ x ∷ []) m
      (subst (Viable Derives l) (e ∙ sym (one_last us x m)) v)

module _ (d : Dialect) where
  in_range_at : (us : List Piece) (x : Piece) (vs : List Piece) → AreInRange d (us ++ (x ∷ vs))
      → kind_of d x.bytes ≡ Some Digits → IsInRange (written_number x.bytes)
  in_range_at [] x vs h = h.0
  in_range_at (u ∷ us) x vs h = in_range_at us x vs h.1

  pub in_range_front : (us vs : List Piece) → AreInRange d (us ++ vs) → AreInRange d us
  in_range_front [] vs h = tt
  in_range_front (u ∷ us) vs h = (h.0, in_range_front us vs h.1)

  integer_not_named : (names : Texts) (x : Piece) → kind_of d x.bytes ≡ Some Digits
      → with_piece d names x ≡ names
  integer_not_named names x e = rw e refl

  large_named : (names : Texts) (pieces : List Piece) (x : Piece) → names ≡ names_of d pieces
      → kind_of d x.bytes ≡ Some Digits → names ≡ names_of d (pieces ++ x ∷ [])
  large_named names pieces x e digits = e ∙ sym
      (fold_append d [] pieces (x ∷ []) ∙ integer_not_named (names_of d pieces) x digits)

module _ {d : Dialect} where
  in_full : (text : List ℕ) (all : List Piece) (end : ℕ) (rest : List ℕ) (before : List Piece)
      (here : Piece) (at : ℕ) → Full d text all end rest → BeginsWith d text before here at
      → (m : List Piece) × (all ≡ before ++ (here ∷ m))
  in_full text all end rest before here at f b = let g = goes_on f.reads f.stop b.reads
      in (g.0, g.1 ∙ one_last before here g.0)

  byte_at_end : (text : List ℕ) (all : List Piece) (end : ℕ) (rest : List ℕ) (at : ℕ)
      → Full d text all end rest → IsBadByte d text at → (at ≡ end) × NothingBegins d rest
  byte_at_end text all end rest at f b =
      let g = goes_on f.reads f.stop b.reads in
      let s = stuck g.2 (inr b.nothing) in
      (s.1, subst (NothingBegins d) s.2 b.nothing)

  length_at_end : (text : List ℕ) (all : List Piece) (end : ℕ) (rest : List ℕ) (pieces : List Piece)
      → Full d text all end rest → Reads d 0 text pieces (length text) [] → length text ≡ end
  length_at_end text all end rest pieces f r = let g = goes_on f.reads f.stop r
      in (stuck g.2 (inl refl)).1

  full_of : (text : List ℕ) (pieces : List Piece) (at : ℕ) (rest : List ℕ)
      → Reads d 0 text pieces at rest → (left : List Piece) × (end : ℕ) × (tail : List ℕ)
      × Full d text (pieces ++ left) end tail
  full_of text pieces at rest r =
      let w : Reading d 0 text = reading text in
      let g = goes_on w.reads w.stop r in (
        g.0,
        w.end,
        w.rest,
        record
            { reads = subst (λ v. Reads d 0 text v w.end w.rest) g.1 w.reads; stop = w.stop },
      )

  pub begins_at : (text : List ℕ) (pieces us : List Piece) (x : Piece) (vs : List Piece) (at : ℕ)
      (rest : List ℕ) → Reads d 0 text pieces at rest → pieces ≡ us ++ (x ∷ vs)
      → BeginsWith d text us x x.at
  begins_at text pieces us x vs at rest r e =
      let s = split (us ++ x ∷ []) vs
      (subst (λ v. Reads d 0 text v at rest) (e ∙ sym (one_last us x vs)) r) in
      record { end = s.mid; rest = s.between; reads = s.before; place = refl }

  pub large_piece : (text : List ℕ) (pieces : List Piece) (at : ℕ) (rest : List ℕ) (names : Texts)
      (n : ℕ) → ReadText d text pieces at rest names → Longest d n rest Digits
      → (IsInRange (written_number (take n rest)) → ⊥)
      → Large d text pieces at rest names (record { bytes = take n rest; at = at })
  large_piece text pieces at rest names n t longest outside =
      let x : Piece = record { bytes = take n rest; at = at } in
      record {
        place = refl;
        digits = longest.is_token;
        outside = outside;
        end = at + n;
        tail = drop n rest;
        reads = join t.reads
            (Takes at n rest Digits [] (at + n) (drop n rest) longest
            (Stops (at + n) (drop n rest)));
        named = large_named d names pieces x t.named longest.is_token;
      }

  large_begins : (text : List ℕ) (pieces : List Piece) (at : ℕ) (rest : List ℕ) (names : Texts)
      (x : Piece) → Large d text pieces at rest names x → BeginsWith d text pieces x x.at
  large_begins text pieces at rest names x l = record
      { end = l.end; rest = l.tail; reads = l.reads; place = refl }

  pub end_place : (text : List ℕ) (pieces : List Piece) (at : ℕ) (rest : List ℕ)
      → Reads d 0 text pieces at rest → rest ≡ [] → at ≡ length text
  end_place text pieces at rest r e = let f = ends_at r in omega (arith, f, ap length e)

  same_pieces : (text : List ℕ) (pieces : List Piece) (at : ℕ) (rest : List ℕ) (own : List Piece)
      → Full d text pieces at rest → Reads d 0 text own (length text) [] → own ≡ pieces
  same_pieces text pieces at rest own f r =
      let g = goes_on f.reads f.stop r in
      let s = stuck g.2 (inl refl) in
      sym (g.1 ∙ ap (λ v. own ++ v) s.0 ∙ append-nil own)

module _ {P : Type 0} {d : Dialect} {Derives : Language P} where
  not_clear : (ts us : List Piece) (x : Piece) (m : List Piece) (k : ℕ) → Clear d Derives ts
      → ts ≡ us ++ (x ∷ m) → AtPiece d Derives us x k → ⊥
  not_clear ts us x m k c e (NoProgram h) = h (front_of unlimited_nesting ts us x m c.some e)
  not_clear ts us x m k c e (Outside digits h) = h
      (in_range_at d us x m (subst (AreInRange d) e c.small) digits)
  not_clear ts us x m k c e (Deep h) = h (front_of at_most_200 ts us x m c.shallow e)

  place_of : (text : List ℕ) (k at : ℕ) → length text ≤ 1048576 → IsUnread d Derives text k at
      → Where d Derives text k at
  place_of text k at short (BadByte _ h) = OnByte refl h
  place_of text k at short (Syntax _ (AtToken _ before here begins v h))
      = OnPiece before here begins (NoProgram h) (λ e. absurd (omega (arith, e)))
  place_of text k at short (Syntax _ (AtEnd pieces tokens v h)) = OnEnd refl refl pieces tokens
  place_of text k at short (NumberRange _ h) = OnPiece h.before h.here h.begins
      (Outside h.integer h.outside) (λ e. absurd (omega (arith, e)))
  place_of text k at short (TooDeep _ h) = OnPiece h.before h.here h.begins (Deep h.too_many)
      (λ e. absurd (omega (arith, e)))
  place_of text k at short (TextTooLong h) = absurd (omega (arith, h, short))

  here_after : (k k' : ℕ) (us : List Piece) (x : Piece) → Here d Derives k us x
      → AtPiece d Derives us x k' → k ≤ k'
  here_after k k' us x h (NoProgram g) = h.syntax g
  here_after k k' us x h (Outside d g) = h.range d
  here_after k k' us x h (Deep g) = h.any

  no_later : (text : List ℕ) (all : List Piece) (end : ℕ) (rest : List ℕ) (us : List Piece)
      (x : Piece) (vs : List Piece) (k k' at' : ℕ) → Full d text all end rest → all ≡ us ++ (x ∷ vs)
      → Clear d Derives us → Here d Derives k us x
      → Where d Derives text k' at' → IsNoLaterFault k x.at k' at'
  no_later text all end rest us x vs k k' at' f e c h (OnByte one b) =
      let b2 = byte_at_end text all end rest at' f b in
      let lt = before_end us x vs (subst (λ w. Reads d 0 text w end rest) e f.reads) in
      inr ((λ five. absurd (omega (arith, one, five))), inl (omega (arith, lt, b2.0)))
  no_later text all end rest us x vs k k' at' f e c h (OnEnd two place pieces r) =
      let q = length_at_end text all end rest pieces f r in
      let lt = before_end us x vs (subst (λ w. Reads d 0 text w end rest) e f.reads) in
      inr ((λ five. absurd (omega (arith, two, five))), inl (omega (arith, lt, q, place)))
  no_later text all end rest us x vs k k' at' f e c h (OnPiece before here begins broken four) =
      let g = in_full text all end rest before here at' f begins in
      by (order before here g.0 us x vs (sym g.1 ∙ e))
    where
      by : Order before here us x → IsNoLaterFault k x.at k' at'
      by (Earlier m s) = absurd (not_clear us before here m k' c s broken)
      by (Same s t) =
          let same : AtPiece d Derives us x k' = subst (λ w. AtPiece d Derives us w k') t
          (subst (λ w. AtPiece d Derives w here k') s broken) in
          inr (
            four,
            inr
                (ap (λ (w : Piece). w.at) (sym t) ∙ begins.place, here_after k k' us x h same),
          )
      by (Later m s) =
          let g = in_full text all end rest before here at' f begins in
          let whole : all ≡ us ++ (x ∷ (m ++ (here ∷ g.0)))
          = g.1 ∙ ap (λ w. w ++ (here ∷ g.0)) s ∙ append_assoc us (x ∷ m) (here ∷ g.0) in
          let lt = ascends us x m here g.0 (subst (λ w. Reads d 0 text w end rest) whole f.reads) in
          inr (four, inl (omega (arith, lt, begins.place)))

  -- nor before the end of all tokens, if none of them breaks any
  no_later_end : (text : List ℕ) (all : List Piece) (end : ℕ) (rest : List ℕ) (k k' at' : ℕ)
      → Full d text all end rest → Clear d Derives all → k ≤ 2 → (NothingBegins d rest → k ≤ 1)
      → Where d Derives text k' at' → IsNoLaterFault k end k' at'
  no_later_end text all end rest k k' at' f c two one (OnByte is b) =
      let q = byte_at_end text all end rest at' f b in
      inr ((λ five. absurd (omega (arith, is, five))), inr (sym q.0, omega (arith, one q.1, is)))
  no_later_end text all end rest k k' at' f c two one (OnEnd is place pieces r) =
      let q = length_at_end text all end rest pieces f r in
      inr (
        (λ five. absurd (omega (arith, is, five))),
        inr (sym q ∙ sym place, omega (arith, two, is)),
      )
  no_later_end text all end rest k k' at' f c two one (OnPiece before here begins broken four) =
      let g = in_full text all end rest before here at' f begins in
      absurd (not_clear all before here g.0 k' c g.1 broken)

  -- a token at which the reading stops
  at_token : (text : List ℕ) (pieces : List Piece) (at : ℕ) (rest : List ℕ) (names : Texts)
      (us : List Piece) (x : Piece) (vs : List Piece) (k : ℕ) → ReadText d text pieces at rest names
      → pieces ≡ us ++ (x ∷ vs) → Clear d Derives us → Here d Derives k us x
      → IsUnread d Derives text k x.at → IsFirstUnread d Derives text k x.at
  at_token text pieces at rest names us x vs k t e c h broken =
      let f = full_of text pieces at rest t.reads in
      let whole : pieces ++ f.0 ≡ us ++ (x ∷ (vs ++ f.0))
      = ap (λ v. v ++ f.0) e ∙ append_assoc us (x ∷ vs) f.0 in
      record {
        broken = broken;
        first = λ k' at' b. no_later text (pieces ++ f.0) f.1 f.2 us x
            (vs ++ f.0) k k' at' f.3 whole c h (place_of text k' at' t.short b);
      }

  -- ---- what a reader has found, and the rule that is the first

  -- a token with which nothing goes on
  pub syntax_first : (text : List ℕ) (pieces : List Piece) (at : ℕ) (rest : List ℕ) (names : Texts)
      (us : List Piece) (x : Piece) (vs : List Piece) → ReadText d text pieces at rest names
      → pieces ≡ us ++ (x ∷ vs) → Clear d Derives us
      → (Viable Derives unlimited_nesting (us ++ x ∷ []) → ⊥)
      → IsFirstUnread d Derives text 2 x.at
  syntax_first text pieces at rest names us x vs t e c none =
      at_token text pieces at rest names us x vs 2 t e c
      (record { syntax = λ g. omega arith; range = λ d. omega arith; any = omega arith })
      (Syntax x.at
      (AtToken x.at us x (begins_at text pieces us x vs at rest t.reads e) c.some none))

  -- a token, no integer, with which something goes on, but nothing that has so few constructs open
  pub deep_first : (text : List ℕ) (pieces : List Piece) (at : ℕ) (rest : List ℕ) (names : Texts)
      (us : List Piece) (x : Piece) (vs : List Piece) → ReadText d text pieces at rest names
      → pieces ≡ us ++ (x ∷ vs) → Clear d Derives us → (kind_of d x.bytes ≡ Some Digits → ⊥)
      → Viable Derives unlimited_nesting (us ++ x ∷ [])
      → (Viable Derives at_most_200 (us ++ x ∷ []) → ⊥) → IsFirstUnread d Derives text 4 x.at
  deep_first text pieces at rest names us x vs t e c opening some none =
      at_token text pieces at rest names us x vs 4 t e c
      (record {
        syntax = λ f. absurd (f some);
        range = λ d. absurd (opening d);
        any
            = omega arith;
      })
      (TooDeep x.at
      (record {
        before = us;
        here = x;
        begins = begins_at text pieces us x vs at rest t.reads e;
        fits = c.shallow;
        goes_on = some;
        too_many = none;
      }))

  large_broken : (text : List ℕ) (pieces : List Piece) (at : ℕ) (rest : List ℕ) (names : Texts)
      (x : Piece) (k : ℕ) → ReadText d text pieces at rest names → Clear d Derives pieces
      → Large d text pieces at rest names x
      → Here d Derives k pieces x → IsUnread d Derives text k x.at
      → IsFirstUnread d Derives text k x.at
  large_broken text pieces at rest names x k t c l h broken =
      let f = full_of text (pieces ++ x ∷ []) l.end l.tail l.reads in
      record {
        broken = broken;
        first = λ k' at' b. no_later text ((pieces ++ x ∷ []) ++ f.0) f.1
            f.2 pieces x f.0 k k' at' f.3 (one_last pieces x f.0) c h
            (place_of text k' at' t.short b);
      }

  -- an integer out of the range, where no integer goes on, and where one does
  pub large_syntax_first : (text : List ℕ) (pieces : List Piece) (at : ℕ) (rest : List ℕ)
      (names : Texts) (x : Piece) → ReadText d text pieces at rest names → Clear d Derives pieces
      → Large d text pieces at rest names x
      → (Viable Derives unlimited_nesting (pieces ++ x ∷ []) → ⊥)
      → IsFirstUnread d Derives text 2 x.at
  large_syntax_first text pieces at rest names x t c l none =
      large_broken text pieces at rest names x 2 t c l
      (record { syntax = λ g. omega arith; range = λ d. omega arith; any = omega arith })
      (Syntax x.at (AtToken x.at pieces x (large_begins text pieces at rest names x l) c.some none))

  pub large_range_first : (text : List ℕ) (pieces : List Piece) (at : ℕ) (rest : List ℕ)
      (names : Texts) (x : Piece) → ReadText d text pieces at rest names → Clear d Derives pieces
      → Large d text pieces at rest names x
      → Viable Derives unlimited_nesting (pieces ++ x ∷ []) → IsFirstUnread d Derives text 3 x.at
  large_range_first text pieces at rest names x t c l some =
      large_broken text pieces at rest names x 3 t c l
      (record { syntax = λ f. absurd (f some); range = λ d. omega arith; any = omega arith })
      (NumberRange x.at
      (record {
        before = pieces;
        here = x;
        begins
            = large_begins text pieces at rest names x l;
        integer = l.digits;
        outside = l.outside;
      }))

  -- a byte at which no token begins, behind what goes on
  pub bad_first : (text : List ℕ) (pieces : List Piece) (at : ℕ) (rest : List ℕ) (names : Texts)
      → ReadText d text pieces at rest names → Clear d Derives pieces → NothingBegins d rest
      → IsFirstUnread d Derives text 1 at
  bad_first text pieces at rest names t c nothing =
      record {
        broken = BadByte at
            (record { before = pieces; rest = rest; reads = t.reads; nothing = nothing });
        first = λ k' at' b. no_later_end text pieces at rest 1 k' at'
            (record { reads = t.reads; stop = inr nothing }) c (omega arith) (λ h. omega arith)
            (place_of text k' at' t.short b);
      }

  -- the end of a text, where nothing whole was read
  pub end_first : (text : List ℕ) (pieces : List Piece) (at : ℕ) (rest : List ℕ) (names : Texts)
      → ReadText d text pieces at rest names → Clear d Derives pieces → rest ≡ []
      → ((p : P) → Derives unlimited_nesting p pieces → ⊥) → IsFirstUnread d Derives text 2 at
  end_first text pieces at rest names t c e none =
      let q = end_place text pieces at rest t.reads e in
      let tokens : Reads d 0 text pieces (length text) []
      = subst (λ v. Reads d 0 text pieces v []) q
      (subst (λ v. Reads d 0 text pieces at v) e t.reads) in
      record {
        broken = subst (IsUnread d Derives text 2) (sym q)
            (Syntax (length text) (AtEnd pieces tokens c.some none));
        first = λ k' at' b. no_later_end text pieces at rest 2 k' at'
            (record { reads = t.reads; stop = inl e }) c (omega arith) (λ f. absurd (f.not_end e))
            (place_of text k' at' t.short b);
      }

  on_piece : (text : List ℕ) (pieces : List Piece) (at : ℕ) (rest : List ℕ) (before : List Piece)
      (here : Piece) (place k : ℕ) → Full d text pieces at rest → Clear d Derives pieces
      → BeginsWith d text before here place → AtPiece d Derives before here k → ⊥
  on_piece text pieces at rest before here place k f c begins broken =
      let g = in_full text pieces at rest before here place f begins in
      not_clear pieces before here g.0 k c g.1 broken

  none_broken : (text : List ℕ) (pieces : List Piece) (at : ℕ) (rest : List ℕ) (k' at' : ℕ)
      → Full d text pieces at rest → length text ≤ 1048576 → rest ≡ [] → Clear d Derives pieces
      → (p : P) → Derives unlimited_nesting p pieces → IsUnread d Derives text k' at' → ⊥
  none_broken text pieces at rest k' at' f short e c p whole (BadByte _ h)
      = (byte_at_end text pieces at rest at' f h).1.not_end e
  none_broken text pieces at rest k' at' f short e c p whole
      (Syntax _ (AtToken _ before here begins v h))
      = on_piece text pieces at rest before here at' 2 f c begins (NoProgram h)
  none_broken text pieces at rest k' at' f short e c p whole (Syntax _ (AtEnd own tokens v h))
      = h p (subst (Derives unlimited_nesting p)
      (sym (same_pieces text pieces at rest own f tokens)) whole)
  none_broken text pieces at rest k' at' f short e c p whole (NumberRange _ h)
      = on_piece text pieces at rest h.before h.here at' 3 f c h.begins
      (Outside h.integer h.outside)
  none_broken text pieces at rest k' at' f short e c p whole (TooDeep _ h)
      = on_piece text pieces at rest h.before h.here at' 4 f c h.begins (Deep h.too_many)
  none_broken text pieces at rest k' at' f short e c p whole (TextTooLong h)
      = absurd (omega (arith, h, short))

  -- A text that was read breaks no rule.
  pub unbroken : (text : List ℕ) (pieces : List Piece) (at : ℕ) (rest : List ℕ) (names : Texts)
      (k' at' : ℕ) → ReadText d text pieces at rest names → rest ≡ [] → Clear d Derives pieces
      → (p : P) → Derives unlimited_nesting p pieces → IsUnread d Derives text k' at' → ⊥
  unbroken text pieces at rest names k' at' t e c p whole b
      = none_broken text pieces at rest k' at' (record { reads = t.reads; stop = inl e }) t.short e
      c p whole b
