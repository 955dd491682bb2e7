-- Registers that are saved in slots, and come back.
use Rattle.std.proofs.Common.{◌≡◌, ℕ, zero, suc, ◌+◌, ◌≤◌, ◌<◌, List, [], ◌∷◌, length, cond, Bool, true, false, Some, inl, inr, refl, sym, ap, ◌∙◌, subst, arith}
use Rattle.std.specs.Prelude.{nat_eq, ◌||◌, slice_get}
use Rattle.std.proofs.lemmas.Bool.Decides.{nat_tests}
use Rattle.seq.proofs.Order.{eq_false}
use Rattle.seq.proofs.Truth.{two_ways}
use Rattle.parallel_move.specs.declared.Spot.{Spot}
use Rattle.parallel_move.specs.declared.Spot.TheVariants.{Reg, Slot}
use Rattle.parallel_move.specs.declared.Move.{Move}
use Rattle.parallel_move.specs.Moves.{Values, same, after_move, after_moves_in_order, is_target}
use Rattle.register_alloc.specs.Fits.{Ascending}
use Rattle.rv32_machine.specs.Memory.{Stretch}
use Rattle.rv32_steps.specs.Data.{Bases}
use Rattle.rv32_select.specs.Emit.{save_moves, restore_moves}
use Rattle.rv32_select.proofs.FrameViews.{AllOk}
use Rattle.register_alloc.proofs.Pigeons.{rest_ascends}
use Rattle.seq.specs.Lists.{is_among}

-- a spot that no move goes to
not_moved : (ms : List Move) (v : Values) (s : Spot) → is_target s ms ≡ false
    → after_moves_in_order ms v s ≡ v s
not_moved [] v s h = refl
not_moved (m ∷ ms) v s h = elim (two_ways (same s m.to)) [
  | inl e ↦ let no : true ≡ false = ap (λ b. b || is_target s ms) (sym e) ∙ h in absurd (cc)
  | inr e ↦ not_moved ms (after_move m v) s (ap (λ b. b || is_target s ms) (sym e) ∙ h) ∙ ap
      (λ b. cond b (v m.from) (v s)) e
]

-- saves go to slots from `first` on, restores to registers
save_low : (first : ℕ) (rs : List ℕ) (k : ℕ) → k < first
    → is_target (Slot k) (save_moves first rs) ≡ false
save_low first [] k h = refl
save_low first (r ∷ rs) k h = ap (λ b. b || is_target (Slot k) (save_moves (suc first) rs))
    (eq_false k first (omega arith)) ∙ save_low (suc first) rs k (omega arith)

save_no_register : (first : ℕ) (rs : List ℕ) (q : ℕ)
    → is_target (Reg q) (save_moves first rs) ≡ false
save_no_register first [] q = refl
save_no_register first (r ∷ rs) q = save_no_register (suc first) rs q

restore_no_slot : (first : ℕ) (rs : List ℕ) (k : ℕ)
    → is_target (Slot k) (restore_moves first rs) ≡ false
restore_no_slot first [] k = refl
restore_no_slot first (r ∷ rs) k = restore_no_slot (suc first) rs k

restore_others : (first : ℕ) (rs : List ℕ) (q : ℕ) → is_among q rs ≡ false
    → is_target (Reg q) (restore_moves first rs) ≡ false
restore_others first [] q h = refl
restore_others first (r ∷ rs) q h = elim (two_ways (nat_eq q r)) [
  | inl e ↦ let no : true ≡ false = ap (λ b. b || is_among q rs) (sym e) ∙ h in absurd (cc)
  | inr e ↦
      ap (λ b. b || is_target (Reg q) (restore_moves (suc first) rs)) e
      ∙ restore_others (suc first) rs q (ap (λ b. b || is_among q rs) (sym e) ∙ h)
]

pub save_keeps_register : (first : ℕ) (rs : List ℕ) (v : Values) (q : ℕ)
    → after_moves_in_order (save_moves first rs) v (Reg q) ≡ v (Reg q)
save_keeps_register first rs v q = not_moved (save_moves first rs) v (Reg q)
    (save_no_register first rs q)

pub save_keeps_slot : (first : ℕ) (rs : List ℕ) (v : Values) (k : ℕ) → k < first
    → after_moves_in_order (save_moves first rs) v (Slot k) ≡ v (Slot k)
save_keeps_slot first rs v k lt = not_moved (save_moves first rs) v (Slot k)
    (save_low first rs k lt)

pub restore_keeps_slot : (first : ℕ) (rs : List ℕ) (v : Values) (k : ℕ)
    → after_moves_in_order (restore_moves first rs) v (Slot k) ≡ v (Slot k)
restore_keeps_slot first rs v k = not_moved (restore_moves first rs) v (Slot k)
    (restore_no_slot first rs k)

pub restore_keeps_register : (first : ℕ) (rs : List ℕ) (v : Values) (q : ℕ) → is_among q rs ≡ false
    → after_moves_in_order (restore_moves first rs) v (Reg q) ≡ v (Reg q)
restore_keeps_register first rs v q h = not_moved (restore_moves first rs) v (Reg q)
    (restore_others first rs q h)

-- the i-th saved register stands in the i-th slot of the saves
pub saved_word : (first : ℕ) (rs : List ℕ) (v : Values) (i r : ℕ) → slice_get rs i ≡ Some r
    → after_moves_in_order (save_moves first rs) v (Slot (first + i)) ≡ v (Reg r)
saved_word first [] v i r e = absurd (cc)
saved_word first (q ∷ rs) v zero r e =
    let z : first + 0 ≡ first = omega arith in
    let is : q ≡ r = cc in
    let itself : nat_eq first first ≡ true = grind (arith, nat_tests) in
    let m : Move = record { to = Slot first; from = Reg q } in
    ap (λ k. after_moves_in_order (save_moves (suc first) rs) (after_move m v) (Slot k)) z
    ∙ not_moved (save_moves (suc first) rs) (after_move m v) (Slot first)
    (save_low (suc first) rs first (omega arith))
    ∙ ap (λ b. cond b (v (Reg q)) (v (Slot first))) itself
    ∙ ap (λ x. v (Reg x)) is
saved_word first (q ∷ rs) v (suc i) r e =
    let n : first + suc i ≡ suc first + i = omega arith in
    let m : Move = record { to = Slot first; from = Reg q } in
    ap (λ k. after_moves_in_order (save_moves (suc first) rs) (after_move m v) (Slot k)) n ∙
    saved_word (suc first) rs (after_move m v) i r e
    ∙ (let none : same (Reg r) (Slot first) ≡ false = refl
    in ap (λ b. cond b (v (Reg q)) (v (Reg r))) none)

-- ascending registers are different
below_all : (q : ℕ) (rs : List ℕ) → Ascending (q ∷ rs) → (r : ℕ) → is_among r rs ≡ true → q < r
below_all q [] h r e = absurd (cc)
below_all q (p ∷ rs) h r e = elim (two_ways (nat_eq r p)) [
  | inl t ↦ let is : p ≡ r = grind (arith, nat_tests) in subst (λ x. q < x) is h.0
  | inr t ↦ let more = below_all p rs h.1 r (ap (λ b. b || is_among r rs) (sym t) ∙ e)
      in omega (arith, more, h.0)
]

not_above : (q : ℕ) (rs : List ℕ) → Ascending (q ∷ rs) → is_among q rs ≡ false
not_above q rs h = by_test (is_among q rs) refl
  where
    by_test : (b : Bool) → is_among q rs ≡ b → b ≡ false
    by_test false e = refl
    by_test true e = let lt = below_all q rs h q e in absurd (omega arith)

pub restored : (first : ℕ) (rs : List ℕ) (v : Values) (i r : ℕ) → Ascending rs
    → slice_get rs i ≡ Some r → after_moves_in_order (restore_moves first rs) v (Reg r) ≡ v
    (Slot (first + i))
restored first [] v i r a e = absurd (cc)
restored first (q ∷ rs) v zero r a e =
    let z : first ≡ first + 0 = omega arith in
    let is : q ≡ r = cc in
    let m : Move = record { to = Reg q; from = Slot first } in
    let here : nat_eq r q ≡ true = grind (arith, nat_tests) in
    not_moved (restore_moves (suc first) rs) (after_move m v) (Reg r)
    (restore_others (suc first) rs r (subst (λ x. is_among x rs ≡ false) is (not_above q rs a)))
    ∙ ap (λ b. cond b (v (Slot first)) (v (Reg r))) here
    ∙ ap (λ k. v (Slot k)) z
restored first (q ∷ rs) v (suc i) r a e =
    let n : suc first + i ≡ first + suc i = omega arith in
    let m : Move = record { to = Reg q; from = Slot first } in
    restored (suc first) rs (after_move m v) i r (rest_ascends q rs a) e ∙ ap (λ k. v (Slot k)) n

pub among_index : (r : ℕ) (rs : List ℕ) → is_among r rs ≡ true → (i : ℕ) × (slice_get rs i ≡ Some r)
among_index r [] e = absurd (cc)
among_index r (q ∷ rs) e = elim (two_ways (nat_eq r q)) [
  | inl t ↦ let is : q ≡ r = grind (arith, nat_tests) in (0, ap (λ x. Some x) is)
  | inr t ↦ let more = among_index r rs (ap (λ b. b || is_among r rs) (sym t) ∙ e)
      in (suc more.0, more.1)
]

pub index_inside : (rs : List ℕ) (i r : ℕ) → slice_get rs i ≡ Some r → i < length rs
index_inside [] i r e = absurd (cc)
index_inside (q ∷ rs) zero r e = omega arith
index_inside (q ∷ rs) (suc i) r e = let h = index_inside rs i r e in omega arith

module _ (c : Stretch) (b : Bases) (j slots : ℕ) where
  abbrev pub InRange : List ℕ → Type 0
  InRange rs = (r : ℕ) → is_among r rs ≡ true → (8 ≤ r) × (r < 32)

  pub in_range_rest : (q : ℕ) (rs : List ℕ) → InRange (q ∷ rs) → InRange rs
  in_range_rest q rs h r e = h r (right (nat_eq r q) (is_among r rs) e)
    where
      right : (x y : Bool) → y ≡ true → x || y ≡ true
      right true y e = refl
      right false y e = e

  in_range_first : (q : ℕ) (rs : List ℕ) → InRange (q ∷ rs) → (8 ≤ q) × (q < 32)
  in_range_first q rs h = h q
      (let t : nat_eq q q ≡ true = grind (arith, nat_tests) in ap (λ b. b || is_among q rs) t)

  pub saves_ok : (first : ℕ) (rs : List ℕ) → InRange rs → first + length rs ≤ slots
      → AllOk c b j slots (save_moves first rs)
  saves_ok first [] h le = tt
  saves_ok first (q ∷ rs) h le = (
    omega arith,
    in_range_first q rs h,
    saves_ok (suc first) rs (in_range_rest q rs h)
        (omega arith),
  )

  pub restores_ok : (first : ℕ) (rs : List ℕ) → InRange rs → first + length rs ≤ slots
      → AllOk c b j slots (restore_moves first rs)
  restores_ok first [] h le = tt
  restores_ok first (q ∷ rs) h le = (
    in_range_first q rs h,
    omega arith,
    restores_ok (suc first) rs (in_range_rest q rs h)
        (omega arith),
  )
