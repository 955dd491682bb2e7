-- A text has one longest-token reading.
use Rattle.std.proofs.Common.{◌≡◌, ℕ, zero, suc, ◌+◌, ◌<◌, ◌≤◌, Bool, true, false, eqb, List, [], ◌∷◌, ◌++◌, length, take, drop, Option, Some, None, refl, sym, ap, subst, ◌∙◌, arith, inl, inr, ◌⊎◌, length-drop}
use Rattle.std.specs.List.{take_while}
use Rattle.std.proofs.lemmas.Bool.{eqb-true, cases_order}
use Rattle.core_reader.specs.declared.dialect.Dialect.{Dialect}
use Rattle.core_reader.specs.declared.dialect.Dialect.TheVariants as dialect
use Rattle.core_reader.specs.declared.look.TokenKind.{TokenKind}
use Rattle.core_reader.specs.declared.look.Found.{Found}
use Rattle.core_reader.specs.declared.look.Found.TheVariants as found
use Rattle.core_reader.specs.Bytes.{is_space, is_in_line}
use Rattle.core_reader.specs.LookOf.{scanned_token}
use Rattle.core_reader.specs.TokensOf.{kind_of, further_sign, Longest, IsSeparator, Piece, Reads, Stops, Passes, Takes, NothingBegins}
use Rattle.core_reader.proofs.Looking.{StandsAtFront, front_stands}
use Rattle.core_reader.proofs.Runs.{len_run, within_run}

-- the reading ends there, at the end of the text or before a byte at which nothing begins
abbrev pub Stopped : Dialect → List ℕ → Type 0
Stopped d rest = (rest ≡ []) ⊎ NothingBegins d rest

-- a reading to a stop
pub record Reading (d : Dialect) (at : ℕ) (bytes : List ℕ) : Type 0 where
  pub all : List Piece
  pub end : ℕ
  pub rest : List ℕ
  pub reads : Reads d at bytes all end rest
  pub stop : Stopped d rest

-- the tokens that a reading has behind its first ones
pub record Behind (d : Dialect) (us vs : List Piece) (at end : ℕ) (bytes rest : List ℕ)
    : Type 0 where
  pub mid : ℕ
  pub between : List ℕ
  pub before : Reads d at bytes us mid between
  pub after : Reads d mid between vs end rest

no_further : (d : Dialect) (b : ℕ) → eqb b 92 ≡ false → eqb b 124 ≡ false → eqb b 58 ≡ false
    → further_sign d b ≡ None
no_further dialect.Core b e f g = refl
no_further dialect.Modules b e f g = refl
no_further dialect.Lambdas b e f g = rw e refl
no_further dialect.Types b e f g = rw (f, g) refl

two_kinds : {A : Type 0} {K : Type 0} {k : K} (o : Option K) → o ≡ Some k → o ≡ None → A
two_kinds o e f = absurd cc

no_space_dash : {A : Type 0} (b : ℕ) → is_space b ≡ true → b ≡ 45 → A
no_space_dash b h e = let f : false ≡ true = subst (λ w. is_space w ≡ true) e h in absurd cc

gap_once : (bytes : List ℕ) (n m : ℕ) → IsSeparator n bytes → IsSeparator m bytes → n ≡ m
gap_once [] n m h g = absurd h
gap_once (b ∷ bs) n m (inl h) (inl g) = h.1 ∙ sym g.1
gap_once (b ∷ bs) n m (inl h) (inr g) = no_space_dash b h.0 g.1
gap_once (b ∷ bs) n m (inr h) (inl g) = no_space_dash b g.0 h.1
gap_once (b ∷ bs) n m (inr h) (inr g) =
    let e : h.0 ≡ g.0 = cc in
    h.3 ∙ ap (λ r. 2 + length (take_while is_in_line r)) e ∙ sym g.3

pub gap_within : (bytes : List ℕ) (n : ℕ) → IsSeparator n bytes → (0 < n) × (n ≤ length bytes)
gap_within [] n h = absurd h
gap_within (b ∷ bs) n (inl h) = (omega (arith, h.1), omega (arith, h.1))
gap_within (b ∷ bs) n (inr h) =
    let e : n ≡ 2 + length (take_while is_in_line h.0) = h.3 in
    let f : length bs ≡ suc (length h.0) = ap length h.2 in
    (omega (arith, e), omega (arith, e, f, len_run is_in_line h.0, within_run is_in_line h.0))

shorter : (bytes : List ℕ) (k n : ℕ) → length bytes ≤ suc n → 0 < k → k ≤ length bytes
    → length (drop k bytes) ≤ n
shorter bytes k n h g f = omega (arith, length-drop k bytes)

empty : (bytes : List ℕ) → length bytes ≤ 0 → bytes ≡ []
empty [] h = refl
empty (b ∷ bs) h = absurd (omega arith)

module _ (d : Dialect) where
  no_kind_none : (n : ℕ) → kind_of d (take n []) ≡ None
  no_kind_none zero = refl
  no_kind_none (suc n) = refl

  -- no token begins with a separator or a comment
  space_has_none : (b : ℕ) → is_space b ≡ true → (bs : List ℕ) → kind_of d (b ∷ bs) ≡ None
  space_has_none b h bs = by (eqb b 32) (eqb b 9) (eqb b 10) refl refl refl
    where
      at32 : (bs : List ℕ) → kind_of d (32 ∷ bs) ≡ None
      at32 [] = no_further d 32 refl refl refl
      at32 (c ∷ bs) = refl

      at9 : (bs : List ℕ) → kind_of d (9 ∷ bs) ≡ None
      at9 [] = no_further d 9 refl refl refl
      at9 (c ∷ bs) = refl

      at10 : (bs : List ℕ) → kind_of d (10 ∷ bs) ≡ None
      at10 [] = no_further d 10 refl refl refl
      at10 (c ∷ bs) = refl

      at13 : (bs : List ℕ) → kind_of d (13 ∷ bs) ≡ None
      at13 [] = no_further d 13 refl refl refl
      at13 (c ∷ bs) = refl

      by : (x y z : Bool) → eqb b 32 ≡ x → eqb b 9 ≡ y → eqb b 10 ≡ z → kind_of d (b ∷ bs) ≡ None
      by true y z e f g = subst (λ w. kind_of d (w ∷ bs) ≡ None) (sym (eqb-true b 32 e)) (at32 bs)
      by false true z e f g = subst (λ w. kind_of d (w ∷ bs) ≡ None) (sym (eqb-true b 9 f)) (at9 bs)
      by false false true e f g = subst (λ w. kind_of d (w ∷ bs) ≡ None) (sym (eqb-true b 10 g))
          (at10 bs)
      by false false false e f g =
          let h13 : eqb b 13 ≡ true = rw (e, f, g) at h in
          subst (λ w. kind_of d (w ∷ bs) ≡ None) (sym (eqb-true b 13 h13)) (at13 bs)

  dashes_have_none : (rest : List ℕ) (n : ℕ) → kind_of d (take n (45 ∷ 45 ∷ rest)) ≡ None
  dashes_have_none rest zero = refl
  dashes_have_none rest (suc zero) = refl
  dashes_have_none rest (suc (suc n)) = refl

  gap_has_none : (bytes : List ℕ) (n m : ℕ) → IsSeparator n bytes → kind_of d (take m bytes) ≡ None
  gap_has_none [] n m h = absurd h
  gap_has_none (b ∷ bs) n zero h = refl
  gap_has_none (b ∷ bs) n (suc m) (inl h) = space_has_none b h.0 (take m bs)
  gap_has_none (b ∷ bs) n (suc m) (inr h) = rw (h.1, h.2) (dashes_have_none h.0 (suc m))

module _ {d : Dialect} where
  longest_once : (bytes : List ℕ) (n m : ℕ) (k j : TokenKind) → Longest d n bytes k
      → Longest d m bytes j → n ≡ m
  longest_once bytes n m k j h g = by (cases_order n m)
    where
      by : (n ≡ m) ⊎ ((n < m) ⊎ (m < n)) → n ≡ m
      by (inl e) = e
      by (inr (inl e)) = two_kinds _ g.is_token (h.no_longer m e g.within)
      by (inr (inr e)) = two_kinds _ h.is_token (g.no_longer n e h.within)

  -- A reading to a stop goes on from where any other reading ends.
  pub goes_on : {at : ℕ} {bytes : List ℕ} {all some : List Piece} {end mid : ℕ} {rest more : List ℕ}
      → Reads d at bytes all end rest → Stopped d rest → Reads d at bytes some mid more
      → (left : List Piece) × (all ≡ some ++ left) × Reads d mid more left end rest
  goes_on {all = all} r stop (Stops at rest) = (all, refl, r)
  goes_on (Stops at bytes) (inl e) (Passes _ m _ some mid more g s)
      = absurd (subst (IsSeparator m) e g)
  goes_on (Stops at bytes) (inr e) (Passes _ m _ some mid more g s) = absurd (e.no_gap m g)
  goes_on (Passes at n bytes all end rest h r) stop (Passes _ m _ some mid more g s) =
      let e = gap_once bytes n m h g in
      goes_on (subst (λ w. Reads d (at + w) (drop w bytes) all end rest) e r) stop s
  goes_on (Takes at n bytes k all end rest h r) stop (Passes _ m _ some mid more g s)
      = two_kinds _ h.is_token (gap_has_none d bytes m n g)
  goes_on (Stops at bytes) (inl e) (Takes _ m _ j some mid more g s)
      = two_kinds _ g.is_token (subst (λ w. kind_of d (take m w) ≡ None) (sym e) (no_kind_none d m))
  goes_on (Stops at bytes) (inr e) (Takes _ m _ j some mid more g s)
      = two_kinds _ g.is_token (e.no_token m)
  goes_on (Passes at n bytes all end rest h r) stop (Takes _ m _ j some mid more g s)
      = two_kinds _ g.is_token (gap_has_none d bytes n m h)
  goes_on (Takes at n bytes k all end rest h r) stop (Takes _ m _ j some mid more g s) =
      let e = longest_once bytes n m k j h g in
      let t = goes_on (subst (λ w. Reads d (at + w) (drop w bytes) all end rest) e r) stop s in
      (t.0, (λ i. record { bytes = take (e i) bytes; at = at } ∷ t.1 i), t.2)

  -- where a reading stops, no other goes on
  pub stuck : {mid end : ℕ} {more rest : List ℕ} {left : List Piece}
      → Reads d mid more left end rest → Stopped d more → (left ≡ []) × (mid ≡ end) × (more ≡ rest)
  stuck (Stops at rest) stop = (refl, refl, refl)
  stuck (Passes at n bytes pieces end rest h r) (inl e) = absurd (subst (IsSeparator n) e h)
  stuck (Passes at n bytes pieces end rest h r) (inr e) = absurd (e.no_gap n h)
  stuck (Takes at n bytes k pieces end rest h r) (inl e)
      = two_kinds _ h.is_token (subst (λ w. kind_of d (take n w) ≡ None) (sym e) (no_kind_none d n))
  stuck (Takes at n bytes k pieces end rest h r) (inr e) = two_kinds _ h.is_token (e.no_token n)

  pub join : {at mid end : ℕ} {bytes more rest : List ℕ} {us vs : List Piece}
      → Reads d at bytes us mid more → Reads d mid more vs end rest
      → Reads d at bytes (us ++ vs) end rest
  join (Stops at rest) s = s
  join (Passes at n bytes pieces end rest h r) s = Passes at n bytes _ _ _ h (join r s)
  join (Takes at n bytes k pieces end rest h r) s = Takes at n bytes k _ _ _ h (join r s)

  pub longest_some : (bytes : List ℕ) (n : ℕ) (k : TokenKind) → Longest d n bytes k → 0 < n
  longest_some bytes zero k h = two_kinds _ h.is_token refl
  longest_some bytes (suc n) k h = omega arith

  -- ---- each text has a reading to a stop

  reading_by : (at n : ℕ) (bytes : List ℕ) (f : Found) → StandsAtFront d bytes f
      → length bytes ≤ suc n → ((m : ℕ) (bs : List ℕ) → length bs ≤ n → Reading d m bs)
      → Reading d at bytes
  reading_by at n bytes (found.Gap k) h w later =
      let r = later (at + k) (drop k bytes) (shorter bytes k n w h.1 h.2) in
      record {
        all = r.all;
        end = r.end;
        rest = r.rest;
        reads
            = Passes at k bytes r.all r.end r.rest h.0 r.reads;
        stop = r.stop;
      }
  reading_by at n bytes (found.Token k kind) h w later =
      let r = later (at + k) (drop k bytes) (shorter bytes k n w h.1 h.0.within) in
      record {
        all = record { bytes = take k bytes; at = at } ∷ r.all;
        end = r.end;
        rest
            = r.rest;
        reads = Takes at k bytes kind r.all r.end r.rest h.0 r.reads;
        stop = r.stop;
      }
  reading_by at n bytes found.Bad h w later = record
      { all = []; end = at; rest = bytes; reads = Stops at bytes; stop = inr h }
  reading_by at n bytes found.End h w later = record
      { all = []; end = at; rest = bytes; reads = Stops at bytes; stop = inl h }

  reading_from : (n at : ℕ) (bytes : List ℕ) → length bytes ≤ n → Reading d at bytes
  reading_from zero at bytes h = record
      { all = []; end = at; rest = bytes; reads = Stops at bytes; stop = inl (empty bytes h) }
  reading_from (suc n) at bytes h = reading_by at n bytes (scanned_token d bytes)
      (front_stands d bytes) h (λ m bs g. reading_from n m bs g)

  pub reading : (text : List ℕ) → Reading d 0 text
  reading text = reading_from (length text) 0 text (omega arith)

  -- ---- places

  pub forward : {at end : ℕ} {bytes rest : List ℕ} {all : List Piece}
      → Reads d at bytes all end rest → at ≤ end
  forward (Stops at rest) = omega arith
  forward (Passes at n bytes all end rest h r) = let f = forward r in omega arith
  forward (Takes at n bytes k all end rest h r) = let f = forward r in omega arith

  -- where a reading ends
  pub ends_at : {at end : ℕ} {bytes rest : List ℕ} {all : List Piece}
      → Reads d at bytes all end rest → end + length rest ≡ at + length bytes
  ends_at (Stops at rest) = refl
  ends_at (Passes at n bytes all end rest h r) = let f = ends_at r in let g = gap_within bytes n h
      in omega (arith, f, g.1, length-drop n bytes)
  ends_at (Takes at n bytes k all end rest h r) = let f = ends_at r
      in omega (arith, f, h.within, length-drop n bytes)

  -- the first token stands at the reading's start or behind it, and before its end
  pub first_place : {at end : ℕ} {bytes rest : List ℕ} {x : Piece} {all : List Piece}
      → Reads d at bytes (x ∷ all) end rest → (at ≤ x.at) × (x.at < end)
  first_place (Passes at n bytes all end rest h r) = let f = first_place r
      in (omega (arith, f.0), f.1)
  first_place (Takes at n bytes k all end rest h r) = let f = forward r in let g
      = longest_some bytes n k h in (omega arith, omega arith)

  behind_by : {at end : ℕ} {bytes rest : List ℕ} {all : List Piece} → Reads d at bytes all end rest
      → (us vs : List Piece) → all ≡ us ++ vs → Behind d us vs at end bytes rest
  behind_by (Stops at rest) [] vs e = record {
    mid = at;
    between = rest;
    before = Stops at rest;
    after
        = subst (λ w. Reads d at rest w at rest) e (Stops at rest);
  }
  behind_by (Stops at rest) (u ∷ us) vs e = absurd cc
  behind_by (Passes at n bytes all end rest h r) us vs e =
      let b = behind_by r us vs e in
      record {
        mid = b.mid;
        between = b.between;
        before
            = Passes at n bytes us b.mid b.between h b.before;
        after = b.after;
      }
  behind_by (Takes at n bytes k all end rest h r) [] vs e =
      record {
        mid = at;
        between = bytes;
        before = Stops at bytes;
        after
            = subst (λ w. Reads d at bytes w end rest) e (Takes at n bytes k all end rest h r);
      }
  behind_by (Takes at n bytes k all end rest h r) (u ∷ us) vs e =
      let tails : all ≡ us ++ vs = cc in
      let head : record { bytes = take n bytes; at = at } ≡ u = cc in
      let b = behind_by r us vs tails in
      record {
        mid = b.mid;
        between = b.between;
        before
            = subst (λ w. Reads d at bytes (w ∷ us) b.mid b.between) head
            (Takes at n bytes k us b.mid b.between h b.before);
        after = b.after;
      }

  pub split : {at end : ℕ} {bytes rest : List ℕ} (us vs : List Piece)
      → Reads d at bytes (us ++ vs) end rest → Behind d us vs at end bytes rest
  split us vs r = behind_by r us vs refl

  -- Of two tokens of a reading the first stands before the second.
  pub ascends : {at end : ℕ} {bytes rest : List ℕ} (us : List Piece) (x : Piece) (vs : List Piece)
      (y : Piece) (ws : List Piece) → Reads d at bytes (us ++ (x ∷ (vs ++ (y ∷ ws)))) end rest
      → x.at < y.at
  ascends us x vs y ws r =
      let a = split us (x ∷ (vs ++ (y ∷ ws))) r in
      let b = split (x ∷ vs) (y ∷ ws) a.after in
      let f = first_place b.before in
      let g = first_place b.after in
      omega (arith, f.1, g.0)

  pub before_end : {at end : ℕ} {bytes rest : List ℕ} (us : List Piece) (x : Piece)
      (vs : List Piece) → Reads d at bytes (us ++ (x ∷ vs)) end rest → x.at < end
  before_end us x vs r = (first_place (split us (x ∷ vs) r).after).1
