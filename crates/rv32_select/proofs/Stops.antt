-- The stops: exits at a label; and the test for room.
use Rattle.std.proofs.Common.{◌≡◌, ◌≢◌, ℕ, suc, ◌+◌, ◌*◌, ◌^◌, ◌<◌, ◌≤◌, List, [], ◌∷◌, ◌++◌, length, Bool, true, false, Some, refl, sym, ap, ◌∙◌, subst, arith, length-append}
use Rattle.std.specs.Prelude.{pos, nat_eq, nat_lt, if◌then◌else◌, slice_get}
use Rattle.std.proofs.lemmas.Bool.Decides.{nat_tests}
use Rattle.rv32_isa.specs.declared.instr.Instr.TheVariants.{OpImm, Ecall}
use Rattle.rv32_isa.specs.declared.instr.ImmKind.TheVariants.{Addi}
use Rattle.rv32_machine.specs.Arithmetic.{plus}
use Rattle.rv32_machine.specs.Steps.{set_reg}
use Rattle.rv32_steps.specs.Data.{Bases}
use Rattle.rv32_steps.specs.Straight.{register_value}
use Rattle.rv32_steps.specs.Trace.{procedures_at}
use Rattle.rv32_steps.proofs.Calls.{dispatch}
use Rattle.rv32_items.specs.declared.Cond.TheVariants.{Ltu}
use Rattle.rv32_items.specs.declared.Item.{Item}
use Rattle.rv32_items.specs.declared.Item.TheVariants.{Label, Plain, Branch}
use Rattle.rv32_items.specs.Course.{Layout, Ended, turn, turn_of, behind_plain, state_at, label_of, label_from}
use Rattle.low_code.specs.Tree.{Program}
use Rattle.low_code.specs.Values.{World}
use Rattle.register_alloc.specs.Assignment.{Assignment}
use Rattle.rv32_items.specs.Placed.{AddressesRise}
use Rattle.rv32_select.specs.Emit.{plain, add_to, room_items, raise_items, exit_with}
use Rattle.rv32_select.proofs.Courses.{Stands, front, back, Goes, Exits, one_ended}
use Rattle.rv32_select.proofs.Leaves.{Remains, remains_on, remains_exit, exits_here_with}
use Rattle.rv32_select.proofs.Straight.{Data, with_reg, Good, does_on, does_imm, at, block}
use Rattle.rv32_select.proofs.JumpStretches.{with_regs, passes, branches, goes_on}
use Rattle.rv32_select.proofs.NumberParts.{does_add}
use Rattle.rv32_select.proofs.FrameViews.{Kept, kept_reg, kept_on}
use Rattle.rv32_select.proofs.Relation.{bases, Ran, Ends, ran_on, ends_on, quiet, quiet_labels, ends_now}
use Rattle.rv32_select.proofs.PlaceFacts.{Setting}
use Rattle.rv32_select.proofs.OneBound.{plain_ran}
use Rattle.rv32_machine.proofs.Registers.{set_there}
use Rattle.limits.specs.Limits.{heap_start}

-- what a taken branch or jump leaves of good data
pub good_far : (items : List Item) (lay : Layout) (b : Bases) → AddressesRise items lay
    → (n : ℕ) (d : Data) → Good lay.code b d → Good lay.code b (with_regs d (lay.far n d.regs))
good_far items lay b rises n d g = record {
  small = λ r ne. by_zero r ne (nat_eq r 0) refl (g.small r ne);
  laid = g.laid;
  top = g.top;
}
  where
    by_zero : (r : ℕ) → r ≢ 7 → (z : Bool) → nat_eq r 0 ≡ z → register_value d.regs r < 2 ^ 32
        → (if z then 0 else lay.far n d.regs r) < 2 ^ 32
    by_zero r ne true e old = omega arith
    by_zero r ne false e old =
        let some : r ≢ 0 = grind (arith, nat_tests) in
        subst (λ x. x < 2 ^ 32) (sym (rises.far_keeps n r d.regs some ne))
        (subst (λ t. (if t then 0 else d.regs r) < 2 ^ 32) e old)

module _ (b : Bases) (lay : Layout) (items : List Item) where
  -- an exit call ends the course
  pub exit_call : (n code : ℕ) (d : Data) (input calls : List ℕ)
      → slice_get items n ≡ Some (Plain Ecall) → d.regs 17 ≡ 93 → d.regs 10 ≡ code
      → Exits lay items 1 input (at b lay items n d) calls [] [] input code
  unfolding turn dispatch
  exit_call n code d input calls here number register_value =
      let p = at b lay items n d in
      one_ended lay items p code input calls
      (ap (turn_of lay items p) here
      ∙ ap (λ x. behind_plain lay items p
      (dispatch (state_at lay items p) x (d.regs 10) (d.regs 11) (d.regs 12))) number
      ∙ ap Ended register_value)
      (ap label_of here)

module _ (l : Program) (a : Assignment) (cells stack : ℕ) (lay : Layout) (items : List Item)
    (begins : List ℕ) (s : Setting l a cells stack lay items begins) where
  -- where the heap isn't full, x3 has the address behind all cells
  abbrev pub IsBehind : (code : ℕ) → Data → World → Type 0
  IsBehind code d w = code ≢ 4 → (length w.cells ≤ cells)
      × (d.regs 3 ≡ heap_start + 4 * l.width * length w.cells)

  -- plain instructions, and an exit call
  pub exits_here : (code t : ℕ) (d : Data) (calls : List ℕ) (w : World) → code < 2048
      → Stands items t (exit_with code) → Good lay.code (bases stack) d → IsBehind code d w
      → Ends lay items begins l.width cells (at (bases stack) lay items t d) calls w w code
  exits_here code t d calls w small stands g next =
      let first = does_imm lay.code (bases stack) Addi 10 0 (pos code) code d g
      (let e : plus 0 code ≡ code = omega arith in e) (omega arith) in
      let second = does_imm lay.code (bases stack) Addi 17 0 (pos 93) 93 (with_reg d 10 code)
      first.good refl (omega arith) in
      let does = does_on lay.code (bases stack) first second in
      let ran = plain_ran l a cells stack lay items begins
      (OpImm Addi 10 0 (pos code) ∷ OpImm Addi 17 0 (pos 93) ∷ []) t d
      (with_reg (with_reg d 10 code) 17 93) calls w g does (stands.0, (stands.1.0, tt)) in
      let two : suc (suc t) ≡ t + 2 = omega arith in
      let exit = exit_call (bases stack) lay items (t + 2) code
      (with_reg (with_reg d 10 code) 17 93) w.input calls
      (subst (λ x. slice_get items x ≡ Some (Plain Ecall)) two stands.1.1.0) refl refl in
      ends_on lay items begins l.width cells ran
      (ends_now lay items begins l.width cells w code exit
      (λ ne. let n = next ne in (
        n.0,
        exits_here_with lay items 3 (heap_start + 4 * l.width * length w.cells) exit n.1,
      )))

  -- a label that is no procedure's
  pub passes_label : (n t : ℕ) (d : Data) (calls : List ℕ) (w : World) → length l.procs ≤ n
      → slice_get items t ≡ Some (Label n) → Ran lay items begins (at (bases stack) lay items t d)
      calls w (at (bases stack) lay items (suc t) d) calls w
  passes_label n t d calls w le here =
      let none : procedures_at begins (n ∷ []) ≡ [] = ap (λ x. x ++ []) (s.begins_no_other n le) in
      quiet_labels lay items begins (n ∷ []) w none
      (passes (bases stack) lay items t n d w.input calls here)

  pub stop_exits : (code n t : ℕ) (d : Data) (calls : List ℕ) (w : World) → code < 2048
      → length l.procs ≤ n → Stands items t (Label n ∷ exit_with code)
      → Good lay.code (bases stack) d → IsBehind code d w
      → Ends lay items begins l.width cells (at (bases stack) lay items t d) calls w w code
  stop_exits code n t d calls w small le stands g next =
      ends_on lay items begins l.width cells (passes_label n t d calls w le stands.0)
      (exits_here code (suc t) d calls w small stands.1 g next)

  -- where the stops stand
  first_stop : Stands items s.stops_at (Label (length l.procs) ∷ exit_with 3)
  first_stop = (s.stops.0, (s.stops.1.0, (s.stops.1.1.0, (s.stops.1.1.1.0, tt))))

  second_stop : Stands items (suc (suc (suc (suc s.stops_at))))
      (Label (1 + length l.procs) ∷ exit_with 4)
  second_stop = let r = s.stops.1.1.1.1 in (r.0, (r.1.0, (r.1.1.0, (r.1.1.1.0, tt))))

  third_stop : Stands items (suc (suc (suc (suc (suc (suc (suc (suc s.stops_at))))))))
      (Label (2 + length l.procs) ∷ exit_with 5)
  third_stop = let r = s.stops.1.1.1.1.1.1.1.1 in (r.0, (r.1.0, (r.1.1.0, (r.1.1.1.0, tt))))

  -- a jump to a stop's label, and the exit there
  pub record StopAt (n code : ℕ) : Type 0 where
    pub place : ℕ
    pub found : label_from 0 items n ≡ Some place
    pub ends : (d : Data) (calls : List ℕ) (w : World) → Good lay.code (bases stack) d
        → IsBehind code d w → Ends lay items begins l.width cells
        (at (bases stack) lay items place d) calls w w code

  pub no_alternative_stop : StopAt (length l.procs) 3
  no_alternative_stop = record {
    place = s.stops_at;
    found = s.once s.stops_at (length l.procs) first_stop.0;
    ends = λ d calls w g next. stop_exits 3 (length l.procs) s.stops_at d calls w (omega arith)
        (omega arith) first_stop g next;
  }

  -- until the exit without an alternative x5 stays as it is
  pub no_alternative_remains : (d : Data) (input : List ℕ) → Good lay.code (bases stack) d
      → Remains lay items s.stops_at (d.regs 5) input
      (at (bases stack) lay items no_alternative_stop.place d)
  unfolding no_alternative_stop
  no_alternative_remains d input g =
      let t = suc s.stops_at in
      let five = d.regs 5 in
      let first = does_imm lay.code (bases stack) Addi 10 0 (pos 3) 3 d g
      (let e : plus 0 3 ≡ 3 = omega arith in e) (omega arith) in
      let one = with_reg d 10 3 in
      let second = does_imm lay.code (bases stack) Addi 17 0 (pos 93) 93 one first.good refl
      (omega arith) in
      let two = with_reg one 17 93 in
      let next : suc t ≡ t + 1 = omega arith in
      let third : suc (suc t) ≡ t + 1 + 1 = omega arith in
      let to_call : slice_get items (t + 1) ≡ Some (Plain (OpImm Addi 17 0 (pos 93)))
      = subst (λ x. slice_get items x ≡ Some (Plain (OpImm Addi 17 0 (pos 93)))) next
      first_stop.1.1.0 in
      let call : slice_get items (t + 1 + 1) ≡ Some (Plain Ecall)
      = subst (λ x. slice_get items x ≡ Some (Plain Ecall)) third first_stop.1.1.1.0 in
      remains_on lay items s.stops_at five (omega arith) refl
      (passes (bases stack) lay items s.stops_at (length l.procs) d input [] first_stop.0)
      (remains_on lay items s.stops_at five (omega arith) refl
      (block (bases stack) lay items t input [] g first (first_stop.1.0, tt))
      (remains_on lay items s.stops_at five (omega arith) refl
      (block (bases stack) lay items (t + 1) input [] first.good second (to_call, tt))
      (remains_exit lay items s.stops_at five (omega arith) refl
      (exit_call (bases stack) lay items (t + 1 + 1) 3 two input [] call refl refl))))

  pub heap_full_stop : StopAt (1 + length l.procs) 4
  heap_full_stop = record {
    place = suc (suc (suc (suc s.stops_at)));
    found = s.once (suc (suc (suc (suc s.stops_at)))) (1 + length l.procs) second_stop.0;
    ends = λ d calls w g next. stop_exits 4 (1 + length l.procs) (suc (suc (suc (suc s.stops_at))))
        d
        calls w (omega arith) (omega arith) second_stop g next;
  }

  pub stack_full_stop : StopAt (2 + length l.procs) 5
  stack_full_stop = record {
    place = suc (suc (suc (suc (suc (suc (suc (suc s.stops_at)))))));
    found = s.once (suc (suc (suc (suc (suc (suc (suc (suc s.stops_at)))))))) (2 + length l.procs)
        third_stop.0;
    ends = λ d calls w g next. stop_exits 5 (2 + length l.procs)
        (suc (suc (suc (suc (suc (suc (suc (suc s.stops_at)))))))) d calls w (omega arith)
        (omega arith) third_stop g next;
  }

  -- ---- the test for room

  -- x5 gets the end of so many bytes from x3 on
  pub record Tested (bytes : ℕ) (start : ℕ) (d : Data) (calls : List ℕ) (w : World) : Type 0 where
    pub to : Data
    pub good : Good lay.code (bases stack) to
    pub five : to.regs 5 ≡ d.regs 3 + bytes
    pub keeps : (j slots : ℕ) → Kept lay.code (bases stack) j slots d to
    pub eights : (r : ℕ) → 8 ≤ r → to.regs r ≡ d.regs r
    pub stack' : to.stack ≡ d.stack
    -- there is room, and what follows stands behind the test
    pub enough : d.regs 3 + bytes ≤ d.regs 4 → Ran lay items begins
        (at (bases stack) lay items start d) calls w
        (at (bases stack) lay items (start + length (room_items bytes (1 + length l.procs))) to)
        calls w
    -- there is none
    pub full : d.regs 4 < d.regs 3 + bytes → Ends lay items begins l.width cells
        (at (bases stack) lay items start d) calls w w 4

  pub tested : (bytes start : ℕ) (d : Data) (calls : List ℕ) (w : World)
      → Stands items start (room_items bytes (1 + length l.procs)) → Good lay.code (bases stack) d
      → bytes < 2 ^ 32 → d.regs 3 + bytes < 2 ^ 32 → Tested bytes start d calls w
  tested bytes start d calls w stands g small sum =
      let add = does_add lay.code (bases stack) 5 3 bytes d g (omega arith) (omega arith) small in
      let is = add_to 5 3 bytes in
      let scratch = add.scratch in
      let total : plus (d.regs 3) bytes ≡ d.regs 3 + bytes = omega arith in
      let to = with_reg (with_reg d 5 scratch) 5 (plus (d.regs 3) bytes) in
      let branch = Branch Ltu 4 5 (1 + length l.procs) in
      let s1 = front items start (plain is) (branch ∷ []) stands in
      let s2 : Stands items (start + length (plain is)) (branch ∷ [])
      = back items start (plain is) (branch ∷ []) stands in
      let ran = plain_ran l a cells stack lay items begins is start d to calls w g add.does s1 in
      let n = start + length (plain is) in
      let behind : suc (start + length (plain is)) ≡ start + length
      (room_items bytes (1 + length l.procs)) = let e = length-append (plain is) (branch ∷ [])
      in omega arith in
      record {
        to = to;
        good = add.does.good;
        five = total;
        keeps = λ j slots. kept_on lay.code (bases stack) j slots
            (kept_reg lay.code (bases stack) j slots d 5 scratch (omega arith))
            (kept_reg lay.code (bases stack) j slots (with_reg d 5 scratch) 5
            (plus (d.regs 3) bytes) (omega arith));
        eights = λ r h. set_there (set_reg d.regs 5 scratch) 5 (plus (d.regs 3) bytes) r
            (omega arith) ∙ set_there d.regs 5 scratch r (omega arith);
        stack' = refl;
        enough = λ le.
            let on : nat_lt (d.regs 4) (plus (d.regs 3) bytes) ≡ false = let h
            : plus (d.regs 3) bytes ≤ d.regs 4 = omega arith in grind (arith, nat_tests) in
            let step = goes_on (bases stack) lay items n (1 + length l.procs) 4 5 Ltu to w.input
            calls s2.0 on in
            let step' = subst
            (λ x. Goes lay items 1 w.input (at (bases stack) lay items n to) calls [] [] w.input
            (at (bases stack) lay items x to) calls) behind step in
            ran_on lay items begins ran (quiet lay items begins w w step' refl refl refl refl refl);
        full = λ lt.
            let off : nat_lt (d.regs 4) (plus (d.regs 3) bytes) ≡ true = let h
            : d.regs 4 < plus (d.regs 3) bytes = omega arith in grind (arith, nat_tests) in
            let stop = heap_full_stop in
            let step = branches (bases stack) lay items n stop.place (1 + length l.procs) 4 5 Ltu to
            w.input calls s2.0 stop.found off in
            let ran' = ran_on lay items begins ran
            (quiet lay items begins w w step refl refl refl refl refl) in
            ends_on lay items begins l.width cells ran'
            (stop.ends (with_regs to (lay.far n to.regs)) calls w
            (good_far items lay (bases stack) s.rises n to add.does.good) (λ ne. absurd (ne refl)));
      }

  -- x3 goes on by so many bytes
  pub record Raised (bytes start : ℕ) (d : Data) (calls : List ℕ) (w : World) : Type 0 where
    pub good : Good lay.code (bases stack) (with_reg d 3 (d.regs 3 + bytes))
    pub enough : d.regs 3 + bytes ≤ d.regs 4 → Ran lay items begins
        (at (bases stack) lay items start d) calls w
        (at (bases stack) lay items (suc (suc start)) (with_reg d 3 (d.regs 3 + bytes))) calls w
    pub full : d.regs 4 < d.regs 3 + bytes → Ends lay items begins l.width cells
        (at (bases stack) lay items start d) calls w w 4

  pub raised : (bytes start : ℕ) (d : Data) (calls : List ℕ) (w : World)
      → Stands items start (raise_items bytes (1 + length l.procs)) → Good lay.code (bases stack) d
      → d.regs 3 + bytes < 2 ^ 32 → Raised bytes start d calls w
  raised bytes start d calls w stands g small =
      let total : plus (d.regs 3) bytes ≡ d.regs 3 + bytes = omega arith in
      let to = with_reg d 3 (d.regs 3 + bytes) in
      let does = does_imm lay.code (bases stack) Addi 3 3 (pos bytes) (d.regs 3 + bytes) d g total
      small in
      let one : start + 1 ≡ suc start = omega arith in
      let first = plain_ran l a cells stack lay items begins (OpImm Addi 3 3 (pos bytes) ∷ []) start
      d to calls w g does (stands.0, tt) in
      let ran = subst
      (λ x. Ran lay items begins (at (bases stack) lay items start d) calls w
      (at (bases stack) lay items x to) calls w) one first in
      record {
        good = does.good;
        enough = λ le.
            let on : nat_lt (d.regs 4) (d.regs 3 + bytes) ≡ false = grind (arith, nat_tests) in
            let step = goes_on (bases stack) lay items (suc start) (1 + length l.procs) 4 3 Ltu to
            w.input calls stands.1.0 on in
            ran_on lay items begins ran (quiet lay items begins w w step refl refl refl refl refl);
        full = λ lt.
            let off : nat_lt (d.regs 4) (d.regs 3 + bytes) ≡ true = grind (arith, nat_tests) in
            let stop = heap_full_stop in
            let step = branches (bases stack) lay items (suc start) stop.place (1 + length l.procs)
            4 3 Ltu to w.input calls stands.1.0 stop.found off in
            let ran' = ran_on lay items begins ran
            (quiet lay items begins w w step refl refl refl refl refl) in
            ends_on lay items begins l.width cells ran'
            (stop.ends (with_regs to (lay.far (suc start) to.regs)) calls w
            (good_far items lay (bases stack) s.rises (suc start) to does.good)
            (λ ne. absurd (ne refl)));
      }
