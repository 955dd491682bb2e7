-- The entry of a procedure: its label, the test of the stack, its frame and its parameters.
use Rattle.std.proofs.Common.{◌≡◌, ◌≢◌, ℕ, suc, ◌+◌, ◌-◌, ◌*◌, ◌<◌, ◌≤◌, List, [], ◌∷◌, ◌++◌, map, length, get_or, true, false, Some, inl, inr, refl, sym, ap, ◌∙◌, subst, arith, length-append, Bool}
use Rattle.std.specs.Prelude.{nat_lt, slice_get}
use Rattle.std.proofs.lemmas.Bool.Decides.{nat_tests}
use Rattle.std.proofs.lemmas.Option.{slice_get_within}
use Rattle.rv32_machine.specs.Arithmetic.{plus, negated}
use Rattle.rv32_machine.specs.Steps.{set_reg}
use Rattle.rv32_steps.specs.Straight.{register_value}
use Rattle.parallel_move.specs.declared.Spot.{Spot}
use Rattle.parallel_move.specs.declared.Spot.TheVariants.{Reg, Slot, Scratch}
use Rattle.low_code.specs.Tree.{Procedure, Program}
use Rattle.low_code.specs.Formed.{variables}
use Rattle.low_code.specs.Values.{Word, Env, World, with_vars, no_vars, need}
use Rattle.low_code.specs.Run.{calls, spent}
use Rattle.register_alloc.specs.Fits.{slots_of}
use Rattle.register_alloc.specs.Assignment.{Assignment, place_of, words_at}
use Rattle.rv32_items.specs.declared.Cond.TheVariants.{Ltu}
use Rattle.rv32_items.specs.declared.Item.{Item}
use Rattle.rv32_items.specs.declared.Item.TheVariants.{Branch}
use Rattle.rv32_items.specs.Course.{Layout, label_from}
use Rattle.rv32_select.specs.Emit.{plain, link_put, add_to, argument_spots, parameters_code, entry_items, base_register, base_at_entry}
use Rattle.rv32_select.specs.IsSelected.{is_lasting}
use Rattle.limits.specs.Limits.{stack_end}
use Rattle.rv32_select.proofs.Courses.{Stands, front, back}
use Rattle.rv32_select.proofs.Straight.{Data, with_reg, Good, Does, does_nothing, does_on, at}
use Rattle.rv32_select.proofs.NumberParts.{value_is, does_add, does_number}
use Rattle.rv32_select.proofs.JumpStretches.{with_regs, passes, branches, goes_on}
use Rattle.rv32_select.proofs.FrameViews.{spots, InFrame, Kept, kept, kept_on, in_frame, stores}
use Rattle.rv32_select.proofs.OperandsRead.{IsPlace, put_here, put_there}
use Rattle.rv32_select.proofs.Relation.{bases, regs_of, word_of, AllHold, HoldsWorld, home_kept, Stood, Ran, Ends, ran_on, ends_on, quiet, enters, Needed, HasBase, base_same}
use Rattle.rv32_select.proofs.PlaceFacts.{NotAmong, AllApart, AllOwn, AllFree, ProcedureFine, StandsAt, Setting}
use Rattle.rv32_select.proofs.BlockFacts.{bound_word, own_place, apart_different}
use Rattle.rv32_select.proofs.OneBound.{plain_ran}
use Rattle.rv32_select.proofs.Stops.{good_far, stack_full_stop}
use Rattle.rv32_select.proofs.BlockEnds.{world_same}
use Rattle.rv32_select.proofs.Linked.{link_put_done}
use Rattle.rv32_machine.proofs.Registers.{set_there}

-- ---- parameters go to their slots

module _ (l : Program) (a : Assignment) (lay : Layout) (stack f j slots saved : ℕ)
    (le : saved ≤ slots) where
  args_same : (i : ℕ) (ss : List Spot) (vs : List Word) (d d' : Data)
      → AllFree l a f (argument_spots i ss) → ((r : ℕ) → 8 ≤ r → r < 32 → d'.regs r ≡ d.regs r)
      → AllHold l.width (argument_spots i ss) vs (regs_of d)
      → AllHold l.width (argument_spots i ss) vs (regs_of d')
  args_same i [] vs d d' o e h = tt
  args_same i (s ∷ ss) [] d d' o e h = tt
  args_same i (Reg r ∷ ss) (v ∷ vs) d d' o e h =
      (e r o.0.0 o.0.1.0 ∙ h.0, args_same (suc i) ss vs d d' o.1 e h.1)
  args_same i (Slot k ∷ ss) (v ∷ vs) d d' o e h =
      (e (8 + i) o.0.0 o.0.1.0 ∙ h.0, args_same (suc i) ss vs d d' o.1 e h.1)
  args_same i (Scratch ∷ ss) (v ∷ vs) d d' o e h =
      (e (8 + i) o.0.0 o.0.1.0 ∙ h.0, args_same (suc i) ss vs d d' o.1 e h.1)

  record Parameters (i : ℕ) (ss : List Spot) (vs : List Word) (d : Data) : Type 0 where
    pub to : Data
    pub does : Does lay.code (bases stack) (parameters_code i ss) d to
    pub hold : AllHold l.width ss vs (spots lay.code (bases stack) j slots to)
    pub others : (t : Spot) → IsPlace lay.code (bases stack) j slots t → NotAmong t ss
        → spots lay.code (bases stack) j slots to t ≡ spots lay.code (bases stack) j slots d t
    pub registers : (r : ℕ) → 8 ≤ r → r < 32 → to.regs r ≡ d.regs r
    pub keeps : Kept lay.code (bases stack) j slots d to

  nothing_put : (i : ℕ) (d : Data) → Good lay.code (bases stack) d → Parameters i [] [] d
  nothing_put i d g = record {
    to = d;
    does = does_nothing lay.code (bases stack) d g;
    hold = tt;
    others
        = λ t o ne. refl;
    registers = λ r lo hi. refl;
    keeps = kept lay.code (bases stack) j slots d;
  }

  parameters_put : (i : ℕ) (ss : List Spot) (vs : List Word) (d : Data)
      → Good lay.code (bases stack) d → InFrame lay.code (bases stack) j slots d
      → AllOwn l a f saved ss → AllApart ss → AllFree l a f (argument_spots i ss)
      → length ss ≡ length vs
      → AllHold l.width (argument_spots i ss) vs (regs_of d) → Parameters i ss vs d
  parameters_put i [] vs d g fr own df free len h =
      record {
        to = d;
        does = does_nothing lay.code (bases stack) d g;
        hold = tt;
        others
            = λ t o ne. refl;
        registers = λ r lo hi. refl;
        keeps
            = kept lay.code (bases stack) j slots d;
      }
  parameters_put i (s ∷ ss) [] d g fr own df free len h = absurd (omega arith)
  parameters_put i (Reg r ∷ ss) (v ∷ vs) d g fr own df free len h =
      let more = parameters_put (suc i) ss vs d g fr own.1 df.1 free.1 (omega arith) h.1 in
      record {
        to = more.to;
        does = more.does;
        hold = (more.registers r own.0.0 own.0.1.0 ∙ h.0, more.hold);
        others = λ t o ne. more.others t o ne.1;
        registers = more.registers;
        keeps = more.keeps;
      }
  parameters_put i (Slot k ∷ ss) (v ∷ vs) d g fr own df free len h =
      let z = stores lay.code (bases stack) j slots k (8 + i) d g fr (omega (arith, le, own.0))
      (let hi = free.0.1.0 in omega arith) in
      let is : register_value d.regs (8 + i) ≡ d.regs (8 + i)
      = value_is d.regs (8 + i) (omega arith) in
      let same = λ (r : ℕ) (lo : 8 ≤ r) (hi : r < 32). z.spots_are (Reg r) (lo, hi) in
      let more = parameters_put (suc i) ss vs z.to z.does.good
      (in_frame lay.code (bases stack) j slots fr z.keeps) own.1 df.1 free.1 (omega arith)
      (args_same (suc i) ss vs d z.to free.1 same h.1) in
      let slot_ok : IsPlace lay.code (bases stack) j slots (Slot k)
      = own_place l a lay stack f j slots saved (Slot k) le own.0 in
      record {
        to = more.to;
        does = does_on lay.code (bases stack) z.does more.does;
        hold = (
          more.others (Slot k) slot_ok df.0 ∙ z.spots_are (Slot k) slot_ok.0 ∙ put_here
              (Slot k) (register_value d.regs (8 + i)) (spots lay.code (bases stack) j slots d) ∙ is
              ∙
              h.0,
          more.hold,
        );
        others = λ t o ne. more.others t o ne.1 ∙ z.spots_are t o.0 ∙ put_there (Slot k) t
            (register_value d.regs (8 + i)) (spots lay.code (bases stack) j slots d) ne.0;
        registers = λ r lo hi. more.registers r lo hi ∙ same r lo hi;
        keeps = kept_on lay.code (bases stack) j slots z.keeps more.keeps;
      }
  parameters_put i (Scratch ∷ ss) (v ∷ vs) d g fr own df free len h = absurd own.0

vars_as_many : (xs : List ℕ) (vs : List Word) (env env' : Env) → with_vars xs vs env ≡ Some env'
    → length xs ≡ length vs
vars_as_many [] [] env env' e = refl
vars_as_many [] (v ∷ vs) env env' e = absurd (cc)
vars_as_many (x ∷ xs) [] env env' e = absurd (cc)
vars_as_many (x ∷ xs) (v ∷ vs) env env' e = ap suc (vars_as_many xs vs _ env' e)

pub places_many : (place : ℕ → Spot) (xs : List ℕ) → length (map place xs) ≡ length xs
places_many place [] = refl
places_many place (x ∷ xs) = ap suc (places_many place xs)

module _ (l : Program) (a : Assignment) (cells stack : ℕ) (lay : Layout) (items : List Item)
    (begins : List ℕ) (s : Setting l a cells stack lay items begins) (f : ℕ) (q : Procedure)
    (pf : ProcedureFine l a f q) where
  -- the stack's base is ready
  record BaseReady (t : Bool) (d : Data) : Type 0 where
    pub to : Data
    pub does : Does lay.code (bases stack) (base_at_entry t (stack_end - stack)) d to
    pub same : (r : ℕ) → r ≢ 5 → to.regs r ≡ d.regs r
    pub heap : to.heap ≡ d.heap
    pub stack' : to.stack ≡ d.stack
    pub is : register_value to.regs (base_register t) ≡ stack_end - stack

  base_ready : (t : Bool) (d : Data) → Good lay.code (bases stack) d
      → HasBase t (stack_end - stack) d → BaseReady t d
  base_ready true d g h = record {
    to = d;
    does = does_nothing lay.code (bases stack) d g;
    same = λ r ne. refl;
    heap
        = refl;
    stack' = refl;
    is = h;
  }
  base_ready false d g h = record {
    to = with_reg d 5 (stack_end - stack);
    does = does_number lay.code (bases stack) 5 (stack_end - stack) d g (omega arith) (omega arith);
    same = λ r ne. set_there d.regs 5 (stack_end - stack) r ne;
    heap = refl;
    stack' = refl;
    is = refl;
  }

  -- the frame's test: x2 goes down
  record FrameTested (bound p : ℕ) (d : Data) (calls : List ℕ) (w : World) (rest : List Item)
      : Type 0 where
    pub to : Data
    pub good : Good lay.code (bases stack) to
    pub sp : to.regs 2 ≡ plus (d.regs 2) (negated (4 * words_at a f))
    pub same : (r : ℕ) → r ≢ 2 → r ≢ 5 → to.regs r ≡ d.regs r
    pub heap : to.heap ≡ d.heap
    pub stack' : to.stack ≡ d.stack
    pub ran : Ran lay items begins (at (bases stack) lay items p d) calls w
        (at (bases stack) lay items
        (p + length
        (plain (add_to 2 2 (negated (4 * words_at a f))
        ++ base_at_entry (is_lasting a) (stack_end - stack)))) to) calls w
    pub five : register_value to.regs (base_register (is_lasting a)) ≡ stack_end - stack

  frame_tested : (bound p : ℕ) (d : Data) (calls : List ℕ) (w : World) (rest : List Item)
      → Good lay.code (bases stack) d → HasBase (is_lasting a) (stack_end - stack) d
      → Stands items p
      (plain (add_to 2 2 (negated (4 * words_at a f))
      ++ base_at_entry (is_lasting a) (stack_end - stack))) → FrameTested bound p d calls w rest
  frame_tested bound p d calls w rest g base stands =
      let x = plus (d.regs 2) (negated (4 * words_at a f)) in
      let add = does_add lay.code (bases stack) 2 2 (negated (4 * words_at a f)) d g (omega arith)
      (omega arith) (omega arith) in
      let d1 = with_reg (with_reg d 5 add.scratch) 2 x in
      let B = base_ready (is_lasting a) d1 add.does.good
      (base_same (is_lasting a) (stack_end - stack) d d1 refl base) in
      let does = does_on lay.code (bases stack) add.does B.does in
      record {
        to = B.to;
        good = does.good;
        sp = B.same 2 (omega arith);
        same = λ r n2 n5. B.same r n5 ∙ set_there (set_reg d.regs 5 add.scratch) 2 x r n2 ∙
            set_there d.regs 5 add.scratch r n5;
        heap = B.heap;
        stack' = B.stack';
        ran = plain_ran l a cells stack lay items begins
            (add_to 2 2 (negated (4 * words_at a f))
            ++ base_at_entry (is_lasting a) (stack_end - stack)) p d B.to calls w g does stands;
        five = B.is;
      }

  abbrev pub NoMust : ℕ → Word → Type 0
  NoMust x v = ⊥

  -- where the procedure's block begins: what its entry has made of the data
  pub record Entered (framed : Bool) (t m bound under left : ℕ) (outer : List ℕ) (vs : List Word)
      (d : Data) (w : World) (env : Env) (block : List Item) : Type 0 where
    pub start : ℕ
    pub to : Data
    pub stands : Stands items start block
    pub ran : Ran lay items begins (at (bases stack) lay items t d) (m ∷ outer) w
        (at (bases stack) lay items start to) (m ∷ outer) (spent f (under + words_at a f) left w)
    pub stood : Stood l a cells stack lay framed f (bound - (1 + pf.slots)) pf.slots d
        (lay.address m) (Needed q.body env NoMust) to (spent f (under + words_at a f) left w)

  module _ (t m bound under left : ℕ) (outer : List ℕ) (vs : List Word) (w : World) (d : Data)
      (is_q : slice_get l.procs f ≡ Some q) (found : label_from 0 items f ≡ Some t)
      (h : HoldsWorld l a cells stack lay d w) (base : HasBase (is_lasting a) (stack_end - stack) d)
      (sp : d.regs 2 ≡ (bases stack).stack + 4 * bound) (total : 4 * (bound + under) ≡ stack)
      (link : d.regs 1 ≡ lay.address m)
      (args : AllHold l.width (argument_spots 0 (map (place_of a) q.params)) vs (regs_of d))
      (units : w.left ≡ suc left) where
    abbrev w' : World
    w' = spent f (under + words_at a f) left w

    abbrev branch : Item
    branch = Branch Ltu 2 (base_register (is_lasting a)) (2 + length l.procs)

    pub at_stands : StandsAt l a cells stack items f q
    at_stands = s.procedures f q is_q

    place_is : at_stands.place ≡ t
    place_is =
        let piece = subst (λ x. Stands items at_stands.place x) at_stands.emits.is at_stands.stands
        in
        let here = s.once at_stands.place f piece.0 in
        let two : Some at_stands.place ≡ Some t = sym here ∙ found in
        cc

    entry_stands : Stands items t
        (entry_items f (words_at a f) at_stands.emits.framed (is_lasting a) (stack_end - stack)
        (2 + length l.procs) (map (place_of a) q.params) ++ at_stands.emits.block)
    entry_stands = subst
        (λ x. Stands items x
        (entry_items f (words_at a f) at_stands.emits.framed (is_lasting a) (stack_end - stack)
        (2 + length l.procs) (map (place_of a) q.params) ++ at_stands.emits.block)) place_is
        (subst (λ x. Stands items at_stands.place x) at_stands.emits.is at_stands.stands)

    labelled : Ran lay items begins (at (bases stack) lay items t d) (m ∷ outer) w
        (at (bases stack) lay items (suc t) d) (m ∷ outer) (spent f (under + words_at a f) left w)
    labelled = enters lay items begins f (under + words_at a f) left w
        (s.begins_procedures f (slice_get_within l.procs f q is_q)) units
        (passes (bases stack) lay items t f d w.input (m ∷ outer) entry_stands.0)

    rest_stands : Stands items (suc t)
        (plain (add_to 2 2 (negated (4 * words_at a f))
        ++ base_at_entry (is_lasting a) (stack_end - stack))
        ++ (Branch Ltu 2 (base_register (is_lasting a)) (2 + length l.procs) ∷ plain
        (link_put at_stands.emits.framed ++ parameters_code 0 (map (place_of a) q.params))))
    rest_stands = front items (suc t)
        (plain (add_to 2 2 (negated (4 * words_at a f))
        ++ base_at_entry (is_lasting a) (stack_end - stack))
        ++ (Branch Ltu 2 (base_register (is_lasting a)) (2 + length l.procs) ∷ plain
        (link_put at_stands.emits.framed ++ parameters_code 0 (map (place_of a) q.params))))
        at_stands.emits.block entry_stands.1

    tested : FrameTested bound (suc t) d (m ∷ outer) (spent f (under + words_at a f) left w) []
    tested = frame_tested bound (suc t) d (m ∷ outer) (spent f (under + words_at a f) left w) []
        h.good base
        (front items (suc t)
        (plain (add_to 2 2 (negated (4 * words_at a f))
        ++ base_at_entry (is_lasting a) (stack_end - stack)))
        (Branch Ltu 2 (base_register (is_lasting a)) (2 + length l.procs) ∷ plain
        (link_put at_stands.emits.framed ++ parameters_code 0 (map (place_of a) q.params)))
        rest_stands)

    branch_stands : Stands items
        (suc t + length
        (plain (add_to 2 2 (negated (4 * words_at a f))
        ++ base_at_entry (is_lasting a) (stack_end - stack))))
        (Branch Ltu 2 (base_register (is_lasting a)) (2 + length l.procs) ∷ plain
        (link_put at_stands.emits.framed ++ parameters_code 0 (map (place_of a) q.params)))
    branch_stands = back items (suc t)
        (plain (add_to 2 2 (negated (4 * words_at a f))
        ++ base_at_entry (is_lasting a) (stack_end - stack)))
        (Branch Ltu 2 (base_register (is_lasting a)) (2 + length l.procs) ∷ plain
        (link_put at_stands.emits.framed ++ parameters_code 0 (map (place_of a) q.params)))
        rest_stands

    -- no room for the frame
    pub stack_is_full : stack < 4 * (under + words_at a f)
        → Ends lay items begins l.width cells (at (bases stack) lay items t d) (m ∷ outer) w
        (spent f (under + words_at a f) left w) 5
    stack_is_full over =
        let z = tested in
        let few = s.stack_few in
        let small = pf.small in
        let n = suc t + length
        (plain (add_to 2 2 (negated (4 * words_at a f))
        ++ base_at_entry (is_lasting a) (stack_end - stack))) in
        let sum : plus (d.regs 2) (negated (4 * words_at a f)) < stack_end - stack = omega arith in
        let low : nat_lt (z.to.regs 2) (register_value z.to.regs (base_register (is_lasting a))) ≡
        true = let x = z.sp in let y = z.five in let lt
        : z.to.regs 2 < register_value z.to.regs (base_register (is_lasting a)) = omega arith
        in grind (arith, nat_tests) in
        let stop = stack_full_stop l a cells stack lay items begins s in
        let step = branches (bases stack) lay items n stop.place (2 + length l.procs) 2
        (base_register (is_lasting a)) Ltu z.to w.input (m ∷ outer) branch_stands.0 stop.found
        low in
        let ran = ran_on lay items begins labelled
        (ran_on lay items begins z.ran
        (quiet lay items begins w' w' step refl refl refl refl refl)) in
        ends_on lay items begins l.width cells ran
        (stop.ends (with_regs z.to (lay.far n z.to.regs)) (m ∷ outer) w'
        (good_far items lay (bases stack) s.rises n z.to z.good)
        (λ ne. (
          h.room,
          s.rises.far_keeps n 3 z.to.regs (omega arith) (omega arith)
              ∙ z.same 3 (omega arith) (omega arith) ∙ h.next,
        )))

    -- the frame is made
    pub entered : (env : Env) → 4 * (under + words_at a f) ≤ stack
        → with_vars q.params vs no_vars ≡ Some env → Entered at_stands.emits.framed t m bound under
        left outer vs d w env at_stands.emits.block
    entered env fits bind =
        let z = tested in
        let few = s.stack_few in
        let small = pf.small in
        let words = pf.words in
        let j = bound - (1 + pf.slots) in
        let n = suc t + length
        (plain (add_to 2 2 (negated (4 * words_at a f))
        ++ base_at_entry (is_lasting a) (stack_end - stack))) in
        let sum : plus (d.regs 2) (negated (4 * words_at a f)) ≡ (bases stack).stack + 4 *
        (bound - (1 + pf.slots)) = omega arith in
        let on : nat_lt (z.to.regs 2) (register_value z.to.regs (base_register (is_lasting a))) ≡
        false = let x = z.sp in let y = z.five in let le
        : register_value z.to.regs (base_register (is_lasting a)) ≤ z.to.regs 2 = omega arith
        in grind (arith, nat_tests) in
        let step = goes_on (bases stack) lay items n (2 + length l.procs) 2
        (base_register (is_lasting a)) Ltu z.to w.input (m ∷ outer) branch_stands.0 on in
        let len = h.stack_words in
        let same_length = ap length z.stack' in
        let P = link_put_done l a cells stack lay at_stands.emits.framed (bound - (1 + pf.slots))
        z.to z.good (z.sp ∙ sum) (omega arith) in
        let e1 = P.to in
        let longer = P.words in
        let frame1 : InFrame lay.code (bases stack) (bound - (1 + pf.slots)) pf.slots e1
        = record { sp = P.regs 2 ∙ z.sp ∙ sum; room = omega arith } in
        let own = pf.params.1 in
        let df = apart_different l a [] q.params q.body [] pf.params.0 in
        let many : length (map (place_of a) q.params) ≡ length vs
        = places_many (place_of a) q.params ∙ vars_as_many q.params vs no_vars env bind in
        let same_regs = λ (r : ℕ) (lo : 8 ≤ r) (hi : r < 32). P.regs r ∙ z.same r (omega arith)
        (omega arith) in
        let args1 = args_same l a lay stack f (bound - (1 + pf.slots)) pf.slots
        (slots_of (place_of a) (variables q)) pf.enough 0 (map (place_of a) q.params) vs d e1
        pf.arguments same_regs args in
        let pr = parameters_put l a lay stack f (bound - (1 + pf.slots)) pf.slots
        (slots_of (place_of a) (variables q)) pf.enough 0 (map (place_of a) q.params) vs e1
        P.does.good frame1 own df pf.arguments many args1 in
        let does = does_on lay.code (bases stack) P.does pr.does in
        let push = plain_ran l a cells stack lay items begins
        (link_put at_stands.emits.framed ++ parameters_code 0 (map (place_of a) q.params))
        (suc n) z.to pr.to (m ∷ outer) w' z.good does branch_stands.1 in
        let whole = ran_on lay items begins labelled
        (ran_on lay items begins z.ran
        (ran_on lay items begins (quiet lay items begins w' w' step refl refl refl refl refl)
        push)) in
        let world1 = world_same l a cells stack lay d pr.to w h pr.does.good
        (pr.keeps.next ∙ P.regs 3 ∙ z.same 3 (omega arith) (omega arith))
        (pr.keeps.end ∙ P.regs 4 ∙ z.same 4 (omega arith) (omega arith))
        (pr.keeps.heap ∙ P.heap ∙ z.heap) (pr.keeps.words ∙ longer ∙ same_length) in
        record {
          start = suc n + length
              (plain (link_put at_stands.emits.framed
              ++ parameters_code 0 (map (place_of a) q.params)));
          to = pr.to;
          stands =
              let b1 = back items t
              (entry_items f (words_at a f) at_stands.emits.framed (is_lasting a)
              (stack_end - stack) (2 + length l.procs) (map (place_of a) q.params))
              at_stands.emits.block entry_stands in
              let e = length-append
              (plain (add_to 2 2 (negated (4 * words_at a f))
              ++ base_at_entry (is_lasting a) (stack_end - stack)))
              (Branch Ltu 2 (base_register (is_lasting a)) (2 + length l.procs) ∷ plain
              (link_put at_stands.emits.framed ++ parameters_code 0
              (map (place_of a) q.params))) in
              subst (λ x. Stands items x at_stands.emits.block)
              (let y : t + length
              (entry_items f (words_at a f) at_stands.emits.framed (is_lasting a)
              (stack_end - stack) (2 + length l.procs) (map (place_of a) q.params)) ≡ suc n +
              length (plain
              (link_put at_stands.emits.framed ++ parameters_code 0
              (map (place_of a) q.params))) = omega arith in y) b1;
          ran = whole;
          stood = record {
            world = record {
              good = world1.good;
              cells_are = world1.cells_are;
              next = world1.next;
              end = world1.end;
              room = world1.room;
              globals = world1.globals;
              input = world1.input;
              heap_words = world1.heap_words;
              stack_words = world1.stack_words;
            };
            frame = in_frame lay.code (bases stack) (bound - (1 + pf.slots)) pf.slots frame1
                pr.keeps;
            home = home_kept l a cells stack lay at_stands.emits.framed (bound - (1 + pf.slots))
                (lay.address m) e1 pr.to pr.keeps.link
                (pr.keeps.outside (bound - (1 + pf.slots)) (inl (omega arith)))
                (P.home (lay.address m) (z.same 1 (omega arith) (omega arith) ∙ link));
            vars = λ y v need. vars_are pr.to y v (bound - (1 + pf.slots)) env bind pr.hold need;
            untouched = record {
              above = λ x le. pr.keeps.outside x (inr le) ∙ P.others x (omega arith) ∙ ap
                  (λ st. get_or st x 0) z.stack';
              others = λ r k. pr.registers r k.low k.high ∙ P.regs r ∙
                  (let lo = k.low in z.same r (omega arith) (omega arith));
            };
          };
        }
      where
        vars_are : (to : Data) (y : ℕ) (v : Word) (j : ℕ) (env : Env)
            → with_vars q.params vs no_vars ≡ Some env
            → AllHold l.width (map (place_of a) q.params) vs
            (spots lay.code (bases stack) j pf.slots to) → Needed q.body env NoMust y v
            → spots lay.code (bases stack) j pf.slots to (place_of a y) ≡ word_of l.width v
        vars_are to y v j env bind hold (inl need) = elim
            (bound_word l.width (place_of a) q.params vs no_vars env
            (spots lay.code (bases stack) j pf.slots to) y v bind hold need.1) [
              | inl k ↦ k
              | inr k ↦ absurd (cc)
            ]
        vars_are to y v j env bind hold (inr none) = absurd none
