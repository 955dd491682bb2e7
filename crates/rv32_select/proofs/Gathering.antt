-- Operands that go to spots at once: moves in an order that does them so, and behind them the
-- numbers.
use Rattle.std.proofs.Common.{◌≡◌, ◌≢◌, ℕ, List, [], ◌∷◌, ◌++◌, map, cond, Bool, true, false, ◌⊎◌, inl, inr, refl, sym, ap, ◌∙◌, subst, arith}
use Rattle.std.specs.Prelude.{nat_le, nat_lt, ◌&&◌}
use Rattle.std.proofs.lemmas.Bool.Decides.{nat_tests}
use Rattle.rv32_isa.specs.declared.instr.Instr.{Instr}
use Rattle.rv32_machine.specs.Memory.{Stretch}
use Rattle.rv32_steps.specs.Data.{Bases}
use Rattle.parallel_move.specs.declared.Spot.{Spot}
use Rattle.parallel_move.specs.declared.Spot.TheVariants.{Reg, Slot, Scratch}
use Rattle.parallel_move.specs.declared.Move.{Move}
use Rattle.parallel_move.specs.Moves.{source_spot, after_parallel_moves, AllMoveEnds}
use Rattle.rv32_select.specs.declared.source.Source.{Source}
use Rattle.rv32_select.specs.declared.source.Source.TheVariants.{At, Number}
use Rattle.rv32_select.specs.Emit.{moves_code, move_from, spot_moves, number_moves}
use Rattle.rv32_select.specs.IsSelected.{IsOrder, moves_between}
use Rattle.rv32_select.proofs.Straight.{Data, Good, Does, does_nothing, does_on}
use Rattle.rv32_select.proofs.FrameViews.{spots, InFrame, Ok, Kept, kept, kept_on, in_frame, AllOk, moves_made}
use Rattle.rv32_select.proofs.OperandsRead.{read, Readable, IsPlace, sets_number}
use Rattle.rv32_select.proofs.PlaceFacts.{NotAmong, AllApart}
use Rattle.parallel_move.proofs.Origins.{differ, same_itself}

-- s goes to t
abbrev pub IsPair : Spot → Source → List Spot → List Source → Type 0
IsPair t s [] ss = ⊥
IsPair t s (u ∷ to) [] = ⊥
IsPair t s (u ∷ to) (x ∷ ss) = ((t ≡ u) × (s ≡ x)) ⊎ IsPair t s to ss

pub pair_is_no : (x t : Spot) (s : Source) (to : List Spot) (ss : List Source) → NotAmong x to
    → IsPair t s to ss → x ≢ t
pair_is_no x t s [] ss h p = absurd p
pair_is_no x t s (u ∷ to) [] h p = absurd p
pair_is_no x t s (u ∷ to) (y ∷ ss) h p = elim p [
  | inl e ↦ λ q. h.0 (q ∙ e.0)
  | inr r ↦ pair_is_no x t s to ss h.1 r
]

origin_later : (t u : Spot) (s : Source) (ms : List Move) → t ≢ u
    → source_spot (move_from u s ++ ms) t ≡ source_spot ms t
origin_later t u (At p) ms ne = ap (λ x. cond x p (source_spot ms t)) (differ t u ne)
origin_later t u (Number n) ms ne = refl

pub origin_pair : (t p : Spot) (to : List Spot) (ss : List Source) → AllApart to
    → IsPair t (At p) to ss → source_spot (spot_moves to ss) t ≡ p
origin_pair t p [] ss d h = absurd h
origin_pair t p (u ∷ to) [] d h = absurd h
origin_pair t p (u ∷ to) (x ∷ ss) d h = elim h [
  | inl e ↦
      let here : source_spot (move_from t (At p) ++ spot_moves to ss) t ≡ p
      = ap (λ b. cond b p (source_spot (spot_moves to ss) t)) (same_itself t) in
      subst (λ y. source_spot (move_from y x ++ spot_moves to ss) t ≡ p) e.0
      (subst (λ y. source_spot (move_from t y ++ spot_moves to ss) t ≡ p) e.1 here)
  | inr r ↦
      let ne : t ≢ u = λ q. pair_is_no u t (At p) to ss d.0 r (sym q) in
      origin_later t u x (spot_moves to ss) ne ∙ origin_pair t p to ss d.1 r
]

pub origin_other : (s : Spot) (to : List Spot) (ss : List Source) → NotAmong s to
    → source_spot (spot_moves to ss) s ≡ s
origin_other s [] ss h = refl
origin_other s (u ∷ to) [] h = refl
origin_other s (u ∷ to) (x ∷ ss) h = origin_later s u x (spot_moves to ss) h.0 ∙ origin_other s to
    ss h.1

module _ (c : Stretch) (b : Bases) (j slots : ℕ) where
  abbrev pub AllPlaces : List Spot → Type 0
  AllPlaces [] = Unit {0}
  AllPlaces (s ∷ ss) = IsPlace c b j slots s × AllPlaces ss

  abbrev pub AllReadable : List Source → Type 0
  AllReadable [] = Unit {0}
  AllReadable (s ∷ ss) = Readable c b j slots s × AllReadable ss

  -- whether a spot is one of this frame
  abbrev is_ok : Spot → Bool
  is_ok (Reg r) = nat_le 8 r && nat_lt r 32
  is_ok (Slot k) = nat_lt k slots
  is_ok Scratch = true

  is_ok_true : (s : Spot) → Ok c b j slots s → is_ok s ≡ true
  is_ok_true (Reg r) h = both (nat_le 8 r) (nat_lt r 32) (let x = h.0 in grind (arith, nat_tests))
      (let x = h.1 in grind (arith, nat_tests))
    where
      both : (x y : Bool) → x ≡ true → y ≡ true → x && y ≡ true
      both true y e f = f
      both false y e f = absurd (cc)
  is_ok_true (Slot k) h = grind (arith, nat_tests)
  is_ok_true Scratch h = refl

  ok_is : (s : Spot) → is_ok s ≡ true → Ok c b j slots s
  ok_is (Reg r) e = let p = parts (nat_le 8 r) (nat_lt r 32) e
      in ((let x = p.0 in grind (arith, nat_tests)), (let x = p.1 in grind (arith, nat_tests)))
    where
      parts : (x y : Bool) → x && y ≡ true → (x ≡ true) × (y ≡ true)
      parts true y e = (refl, e)
      parts false y e = absurd (cc)
  ok_is (Slot k) e = grind (arith, nat_tests)
  ok_is Scratch e = tt

  all_ok : (ms : List Move) → AllMoveEnds is_ok ms → AllOk c b j slots ms
  all_ok [] h = tt
  all_ok (m ∷ ms) h = (ok_is m.to h.0, ok_is m.from h.1, all_ok ms h.2)

  ends_ok : (to : List Spot) (ss : List Source) → AllPlaces to → AllReadable ss
      → AllMoveEnds is_ok (spot_moves to ss)
  ends_ok [] ss h k = tt
  ends_ok (t ∷ to) [] h k = tt
  ends_ok (t ∷ to) (Number n ∷ ss) h k = ends_ok to ss h.1 k.1
  ends_ok (t ∷ to) (At p ∷ ss) h k = (is_ok_true t h.0.0, is_ok_true p k.0.0, ends_ok to ss h.1 k.1)

  -- ---- the numbers

  -- numbers stand at their spots, and every other place is as it was
  record Numbered (to : List Spot) (ss : List Source) (d : Data) : Type 0 where
    pub data' : Data
    pub does : Does c b (number_moves to ss) d data'
    pub numbers : (t : Spot) (n : ℕ) → IsPair t (Number n) to ss → spots c b j slots data' t ≡ n
    pub moved' : (t p : Spot) → IsPlace c b j slots t → IsPair t (At p) to ss
        → spots c b j slots data' t ≡ spots c b j slots d t
    pub others : (s : Spot) → IsPlace c b j slots s → NotAmong s to
        → spots c b j slots data' s ≡ spots c b j slots d s
    pub keeps : Kept c b j slots d data'

  place_of_pair : (t : Spot) (s : Source) (to : List Spot) (ss : List Source) → AllPlaces to
      → IsPair t s to ss → IsPlace c b j slots t
  place_of_pair t s [] ss h p = absurd p
  place_of_pair t s (u ∷ to) [] h p = absurd p
  place_of_pair t s (u ∷ to) (x ∷ ss) h p = elim p [
    | inl e ↦ subst (λ q. IsPlace c b j slots q) (sym e.0) h.0
    | inr r ↦ place_of_pair t s to ss h.1 r
  ]

  number_is : (n m : ℕ) → Number n ≡ Number m → n ≡ m
  number_is n m e = cc

  no_number : (p : Spot) (n : ℕ) → At p ≡ Number n → ⊥
  no_number p n e = cc

  numbered : (to : List Spot) (ss : List Source) (d : Data) → Good c b d → InFrame c b j slots d
      → AllPlaces to → AllReadable ss → AllApart to → Numbered to ss d
  numbered [] ss d g f h k df = record {
    data' = d;
    does = does_nothing c b d g;
    numbers = λ t n p. absurd p;
    moved'
        = λ t p o q. absurd q;
    others = λ s o n. refl;
    keeps = kept c b j slots d;
  }
  numbered (t ∷ to) [] d g f h k df = record {
    data' = d;
    does = does_nothing c b d g;
    numbers = λ t n p. absurd p;
    moved'
        = λ t p o q. absurd q;
    others = λ s o n. refl;
    keeps = kept c b j slots d;
  }
  numbered (t ∷ to) (At p ∷ ss) d g f h k df =
      let more = numbered to ss d g f h.1 k.1 df.1 in
      record {
        data' = more.data';
        does = more.does;
        numbers = λ u n q. elim q
            [ inl e ↦ absurd (no_number p n (sym e.1)) | inr r ↦ more.numbers u n r ];
        moved' = λ u x o q. elim q [
          | inl e ↦ more.others u o (subst (λ y. NotAmong y to) (sym e.0) df.0)
          | inr r ↦ more.moved' u x o r
        ];
        others = λ s o n. more.others s o n.1;
        keeps = more.keeps;
      }
  numbered (t ∷ to) (Number n ∷ ss) d g f h k df =
      let first = sets_number c b j slots t n d g f h.0 k.0 in
      let more = numbered to ss first.to first.does.good (in_frame c b j slots f first.keeps) h.1
      k.1 df.1 in
      let apart = λ (u : Spot) (x : Source) (r : IsPair u x to ss). pair_is_no t u x to ss df.0 r in
      record {
        data' = more.data';
        does = does_on c b first.does more.does;
        numbers = λ u m q. elim q [
          | inl e ↦
              ap (λ y. spots c b j slots more.data' y) e.0 ∙ more.others t h.0 df.0 ∙ first.here ∙
              sym (number_is m n e.1)
          | inr r ↦ more.numbers u m r
        ];
        moved' = λ u x o q. elim q [
          | inl e ↦ absurd (no_number x n e.1)
          | inr r ↦ more.moved' u x o r ∙ first.others u o (λ z. apart u (At x) r (sym z))
        ];
        others = λ s o ne. more.others s o ne.1 ∙ first.others s o ne.0;
        keeps = kept_on c b j slots first.keeps more.keeps;
      }

  -- ---- all of them

  -- each spot has what its operand was, and every other place is as it was
  pub record Gathered (is : List Instr) (to : List Spot) (ss : List Source) (d : Data)
      : Type 0 where
    pub data' : Data
    pub does : Does c b is d data'
    pub each : (t : Spot) (s : Source) → IsPair t s to ss
        → spots c b j slots data' t ≡ read c b j slots d s
    pub others : (s : Spot) → IsPlace c b j slots s → NotAmong s to
        → spots c b j slots data' s ≡ spots c b j slots d s
    pub keeps : Kept c b j slots d data'

  pub gathered : (steps : List Move) (to : List Spot) (ss : List Source) (d : Data)
      → IsOrder steps (spot_moves to ss) → Good c b d → InFrame c b j slots d → AllPlaces to
      → AllReadable ss → AllApart to → Gathered (moves_code steps ++ number_moves to ss) to ss d
  gathered steps to ss d order g f places readable df =
      let u = spots c b j slots d in
      let m = moves_made c b j slots steps d g f
      (all_ok steps (order.among.stays is_ok refl (ends_ok to ss places readable))) in
      let n = numbered to ss m.to m.does.good (in_frame c b j slots f m.keeps) places readable df in
      let moved_is = λ (s : Spot) (o : IsPlace c b j slots s). m.spots_are s o.0 ∙ order.once u s
      o.1 in
      record {
        data' = n.data';
        does = does_on c b m.does n.does;
        each = λ t s p. by_source t s p m.to n (moved_is t (place_of_pair t s to ss places p));
        others = λ s o ne. n.others s o ne ∙ moved_is s o ∙ ap u (origin_other s to ss ne);
        keeps = kept_on c b j slots m.keeps n.keeps;
      }
    where
      by_source : (t : Spot) (s : Source) → IsPair t s to ss → (e : Data) (n : Numbered to ss e)
          → spots c b j slots e t ≡ after_parallel_moves (spot_moves to ss) (spots c b j slots d) t
          → spots c b j slots n.data' t ≡ read c b j slots d s
      by_source t (At p) q e n is = n.moved' t p (place_of_pair t (At p) to ss places q) q ∙ is ∙ ap
          (spots c b j slots d) (origin_pair t p to ss df q)
      by_source t (Number m) q e n is = n.numbers t m q

-- ---- moves from spots to spots

pub between_are : (to from : List Spot) → moves_between to from ≡ spot_moves to (map At from)
between_are [] from = refl
between_are (t ∷ to) [] = refl
between_are (t ∷ to) (s ∷ from) = ap (λ ms. record { to = t; from = s } ∷ ms) (between_are to from)

pub no_numbers : (to from : List Spot) → number_moves to (map At from) ≡ []
no_numbers [] from = refl
no_numbers (t ∷ to) [] = refl
no_numbers (t ∷ to) (s ∷ from) = no_numbers to from
