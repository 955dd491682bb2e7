-- Calls.
use Rattle.std.proofs.Common.{◌≡◌, ◌≢◌, ℕ, suc, ◌+◌, ◌*◌, ◌<◌, ◌≤◌, List, ◌∷◌, ◌++◌, map, length, get_or, Bool, true, false, Some, None, inl, inr, refl, sym, ap, ◌∙◌, subst, arith, length-append, ◌-◌}
use Rattle.std.specs.Prelude.{Option, nat_eq, slice_get}
use Rattle.std.proofs.lemmas.Bool.Decides.{nat_tests}
use Rattle.rv32_isa.specs.declared.instr.Instr.{Instr}
use Rattle.rv32_isa.specs.declared.instr.Instr.TheVariants.{Ecall}
use Rattle.rv32_machine.specs.Steps.{set_reg}
use Rattle.parallel_move.specs.declared.Spot.{Spot}
use Rattle.parallel_move.specs.declared.Spot.TheVariants.{Reg, Slot, Scratch}
use Rattle.parallel_move.specs.declared.Move.{Move}
use Rattle.low_code.specs.declared.program.Operand.{Operand}
use Rattle.low_code.specs.Tree.{Code, call, Procedure, Program}
use Rattle.low_code.specs.Formed.{uses, used_by_all, variables}
use Rattle.low_code.specs.Values.{Word, Env, World, need, then_do, with_vars}
use Rattle.low_code.specs.Run.{Calls, code, operands}
use Rattle.register_alloc.specs.Live.{IsLive}
use Rattle.register_alloc.specs.Fits.{slots_of}
use Rattle.register_alloc.specs.Assignment.{Assignment, place_of, saves_at, words_at}
use Rattle.rv32_items.specs.declared.Item.{Item}
use Rattle.rv32_items.specs.declared.Item.TheVariants.{Plain, Jump}
use Rattle.rv32_items.specs.Course.{Layout, Point, label_from, address_from}
use Rattle.rv32_items.specs.Placed.{is_instruction}
use Rattle.rv32_select.specs.declared.source.Continuation.{Continuation}
use Rattle.rv32_select.specs.Emit.{plain, moves_code, spot_moves, number_moves, argument_spots, result_spots, save_moves, restore_moves}
use Rattle.rv32_select.specs.IsSelected.{sources, params_of, argument_spots_of, results_of, result_spots_of, IsOrder, moves_between, call_items, Then}
use Rattle.limits.specs.Limits.{stack_end}
use Rattle.rv32_select.proofs.Courses.{Stands, front, back}
use Rattle.rv32_select.proofs.Straight.{Data, does_on, at}
use Rattle.rv32_select.proofs.JumpStretches.{jumped, calls_to, comes_back, there_less}
use Rattle.rv32_select.proofs.FrameViews.{spots, InFrame, Outside, in_frame}
use Rattle.rv32_select.proofs.OperandsRead.{read}
use Rattle.rv32_select.proofs.Gathering.{gathered}
use Rattle.rv32_select.proofs.SavedRegisters.{among_index, index_inside}
use Rattle.rv32_select.proofs.Relation.{bases, regs_of, word_of, AllHold, HoldsWorld, Keeps, Stood, Back, Ran, ran_on, quiet, Does', does_after, does_then, Given, Needed, base_lasts}
use Rattle.rv32_select.proofs.PlaceFacts.{NotAmong, IsOwn, Binds, CallFits, SavesFit, ProcedureFine, Setting}
use Rattle.rv32_select.proofs.BlockFacts.{room, Opened, Simulates, CallsSimulated, bound_word, still_scoped, own_places, kept_not_own, apart_not_among, apart_different, world_kept}
use Rattle.rv32_select.proofs.OneBound.{Cut, cut, ready_at, plain_ran}
use Rattle.rv32_select.proofs.TakeStatement.{scope_owned}
use Rattle.rv32_select.proofs.BlockEnds.{all_hold, world_same, good_jumped, jumped_reg, operands_read}
use Rattle.rv32_select.proofs.TailStatement.{free_hold}
use Rattle.rv32_select.proofs.CallParts.{slot_not_free, saved_all, own_same, Restored, restored_all}
use Rattle.seq.specs.Lists.{is_among}
use Rattle.rv32_machine.proofs.Registers.{set_here}
use Rattle.seq.proofs.Counted.{among_left, among_right}

module _ (l : Program) (a : Assignment) (cells stack : ℕ) (lay : Layout) (items : List Item)
    (begins : List ℕ) (s : Setting l a cells stack lay items begins) where
  -- an item stands behind a call
  pub behind_call : (p link g : ℕ) → slice_get items p ≡ Some (Jump link g) → suc p < length items
  behind_call p link g here =
      let inside = there_less items p (Jump link g) here in
      let last = s.last in
      by_end (nat_eq p (s.stops_at + 11)) refl inside last
    where
      by_end : (b : Bool) → nat_eq p (s.stops_at + 11) ≡ b → p < length items
          → length items ≡ s.stops_at + 12 → suc p < length items
      by_end false e inside last = let ne : p ≢ s.stops_at + 11 = grind (arith, nat_tests)
          in omega arith
      by_end true e inside last =
          let same : p ≡ s.stops_at + 11 = grind (arith, nat_tests) in
          let count : suc (suc (suc (suc (suc (suc (suc (suc (suc (suc (suc s.stops_at)))))))))) ≡
          s.stops_at + 11 = omega arith in
          let end : slice_get items (s.stops_at + 11) ≡ Some (Plain Ecall)
          = subst (λ x. slice_get items x ≡ Some (Plain Ecall)) count
          s.stops.1.1.1.1.1.1.1.1.1.1.1.0 in
          let two : Some (Jump link g) ≡ Some (Plain Ecall)
          = sym here ∙ ap (slice_get items) same ∙ end in
          absurd (cc)

-- what a call has not changed up to a moment: the slots of variables, the registers that the
-- procedure leaves, and the words beside
-- the slots; registers that were saved are in their slots
pub record Crossed (l : Program) (a : Assignment) (lay : Layout) (stack j slots saved g : ℕ)
    (regs : List ℕ) (d e : Data) : Type 0 where
  pub low_slots : (k : ℕ) → k < saved → spots lay.code (bases stack) j slots e (Slot k) ≡ spots
      lay.code (bases stack) j slots d (Slot k)
  pub saves : (i r : ℕ) → slice_get regs i ≡ Some r
      → spots lay.code (bases stack) j slots e (Slot (saved + i)) ≡ d.regs r
  pub kept : (r : ℕ) → Keeps l a g r → e.regs r ≡ d.regs r
  pub outside : (t : ℕ) → Outside lay.code (bases stack) j slots t → j ≤ t
      → get_or e.stack t 0 ≡ get_or d.stack t 0

pub crossed_back : (l : Program) (a : Assignment) (cells stack : ℕ) (lay : Layout)
    (j slots saved g : ℕ) (regs : List ℕ) (d e e' : Data) (to : List Spot) (rs : List Word)
    (w : World) → Crossed l a lay stack j slots saved g regs d e
    → Back l a cells stack lay g j e to rs e' w → Crossed l a lay stack j slots saved g regs d e'
crossed_back l a cells stack lay j slots saved g regs d e e' to rs w h back = record {
  low_slots = λ k lt. back.untouched.above (j + (1 + k)) (omega arith) ∙ h.low_slots k lt;
  saves = λ i r x. back.untouched.above (j + (1 + (saved + i))) (omega arith) ∙ h.saves i r x;
  kept = λ r k. back.untouched.others r k ∙ h.kept r k;
  outside = λ t o le. back.untouched.above t le ∙ h.outside t o le;
}

module _ (l : Program) (a : Assignment) (cells stack : ℕ) (lay : Layout) (f j slots saved : ℕ)
    (d0 : Data) (link : ℕ) (le : saved ≤ slots) where
  -- what is needed behind a call has been kept
  pub stood_after : (g site : ℕ) (c0 c : Code) (xs : List ℕ) (steps : List Move) (rs : List Word)
      (scope later : List ℕ) (env env' : Env) (Must : ℕ → Word → Type 0) (d e : Data) (w w' : World)
      (in_range : (r : ℕ) → is_among r (saves_at a site) ≡ true → (8 ≤ r) × (r < 32))
      (room_is : saved + length (saves_at a site) ≤ slots)
      → Stood l a cells stack lay true f j slots d0 link (Needed c0 env Must) d w
      → Crossed l a lay stack j slots saved g (saves_at a site) d e
      → HoldsWorld l a cells stack lay e w' → e.regs 2 ≡ d.regs 2
      → CallFits l a f g → SavesFit l a f slots saved scope c later site g
      → Binds l a f slots saved scope xs c later → with_vars xs rs env ≡ Some env'
      → (R : Restored l a lay stack f j slots saved le (saves_at a site) in_range room_is xs steps
      rs e)
      → ((y : ℕ) → is_among y (uses c) ≡ true → is_among y (uses c0) ≡ true)
      → ((y : ℕ) (v : Word) → env y ≡ Some v → is_among y scope ≡ true)
      → ((y : ℕ) (v : Word) → Must y v → (is_among y scope ≡ true) × (is_among y later ≡ true))
      → ((y : ℕ) → is_among y scope ≡ true → IsOwn l a f saved (place_of a y))
      → Stood l a cells stack lay true f j slots d0 link (Needed c env' Must) R.to w'
  stood_after g site c0 c xs steps rs scope later env env' Must d e w w' in_range room_is st x world
      sp fits sv binds bind R incl scoped must owned = record {
        world = world_kept l a cells stack lay j slots e R.to w' world R.does.good R.keeps;
        frame = record {
          sp = R.keeps.frame ∙ sp ∙ st.frame.sp;
          room = let r = st.frame.room in let n
              = R.keeps.words in let n1 = world.stack_words in let n2 = st.world.stack_words
              in omega arith;
        };
        home = R.keeps.outside j (inl (omega arith)) ∙ x.outside j (inl (omega arith)) (omega arith)
            ∙
            st.home;
        vars = vars;
        untouched = record {
          above = λ t h. R.keeps.outside t (inr h) ∙ x.outside t (inr h) (omega arith) ∙
              st.untouched.above t h;
          others = λ r keep.
              R.registers r keep.low keep.high
              (kept_not_own l a f saved r (map (place_of a) xs) keep binds.1)
              (never_saved r keep (is_among r (saves_at a site)) refl)
              ∙ x.kept r (fits.keeps r keep) ∙ st.untouched.others r keep;
        };
      }
    where
      -- a register that the procedure leaves for its own caller is not saved
      never_saved : (r : ℕ) → Keeps l a f r → (b : Bool) → is_among r (saves_at a site) ≡ b
          → is_among r (saves_at a site) ≡ false
      never_saved r keep false k = k
      never_saved r keep true k =
          let y = sv.is_live r k in
          let o = subst (λ z. IsOwn l a f saved z) y.1.1 (owned y.0 y.1.0.0) in
          absurd (o.1.1 keep)

      by_saved : (r : ℕ) (v : Word) → is_among r (saves_at a site) ≡ true
          → d.regs r ≡ word_of l.width v → R.to.regs r ≡ word_of l.width v
      by_saved r v among is = let i = among_index r (saves_at a site) among
          in R.saves i.0 r i.1 among ∙ x.saves i.0 r i.1 ∙ is

      by_kept : (r : ℕ) (v : Word) → 8 ≤ r → r < 32 → Keeps l a g r
          → NotAmong (Reg r) (map (place_of a) xs) → (b : Bool) → is_among r (saves_at a site) ≡ b
          → d.regs r ≡ word_of l.width v → R.to.regs r ≡ word_of l.width v
      by_kept r v lo hi keep ne true k is = by_saved r v k is
      by_kept r v lo hi keep ne false k is = R.registers r lo hi ne k ∙ x.kept r keep ∙ is

      by_place : (y : ℕ) (v : Word) → IsLive scope c later y → (z : Spot) → place_of a y ≡ z
          → IsOwn l a f saved z → NotAmong z (map (place_of a) xs)
          → spots lay.code (bases stack) j slots d z ≡ word_of l.width v
          → spots lay.code (bases stack) j slots R.to z ≡ word_of l.width v
      by_place y v live (Reg r) at_reg own ne is = elim (sv.is_saved y r live at_reg) [
        | inl among ↦ by_saved r v among is
        | inr keep ↦ by_kept r v own.0 own.1.0 keep ne (is_among r (saves_at a site)) refl is
      ]
      by_place y v live (Slot k) at_slot own ne is = R.low_slots k own ne ∙ x.low_slots k own ∙ is
      by_place y v live Scratch at_none own ne is = absurd own

      kept : (y : ℕ) (v : Word) → is_among y scope ≡ true → IsLive scope c later y
          → Needed c0 env Must y v → spots lay.code (bases stack) j slots R.to (place_of a y) ≡
          word_of l.width v
      kept y v in_scope live need = by_place y v live (place_of a y) refl (owned y in_scope)
          (apart_not_among l a scope xs c later y binds.0 live) (st.vars y v need)

      vars : (y : ℕ) (v : Word) → Needed c env' Must y v
          → spots lay.code (bases stack) j slots R.to (place_of a y) ≡ word_of l.width v
      vars y v (inl h) = elim
          (bound_word l.width (place_of a) xs rs env env'
          (spots lay.code (bases stack) j slots R.to) y v bind R.hold h.1) [
            | inl k ↦ k
            | inr k ↦ let in_scope = scoped y v k in kept y v in_scope
                (in_scope, among_left y (uses c) later h.0) (inl (incl y h.0, k))
          ]
      vars y v (inr h) = let both = must y v h in kept y v both.0
          (both.0, among_right y (uses c) later both.1) (inr h)

module _ (l : Program) (a : Assignment) (cells stack : ℕ) (lay : Layout) (items : List Item)
    (begins : List ℕ) (s : Setting l a cells stack lay items begins) (calls_n : Calls) (n : ℕ)
    (called : CallsSimulated l a cells stack lay items begins calls_n n)
    (f : ℕ) (q : Procedure) (pf : ProcedureFine l a f q) (framed : Bool) (j m : ℕ) (outer : List ℕ)
    (d0 : Data) (u : ℕ) (found : address_from 0 items lay (lay.address m) ≡ Some m)
    (total : 4 * (j + (1 + pf.slots) + u) ≡ stack) where
  -- a call's items, and then others
  abbrev pub CallEmits : (g site : ℕ) (os : List Operand) (xs : List ℕ) → (List Item → Type 0)
      → List Item → Type 0
  CallEmits g site os xs Rest block =
      (arguments results : List Move)
      × IsOrder arguments (spot_moves (argument_spots_of l a g) (sources l a os))
      × IsOrder results (moves_between (map (place_of a) xs) (result_spots_of l g))
      × Then (call_items l a (slots_of (place_of a) (variables q)) g os (saves_at a site) arguments
      results) Rest block

  module _ (Rest : List Item → Type 0) (g site : ℕ) (os : List Operand) (xs : List ℕ) (c : Code)
      (to : List Spot) (way : Continuation) (Must : ℕ → Word → Type 0) (k : ℕ) (block : List Item)
      (p : ℕ) (scope later : List ℕ) (env : Env) (top : ℕ) (under : Option ℕ) (d : Data) (w : World)
      (b : Opened l a cells stack lay items begins f q framed pf.slots j m outer d0 u n true
      (CallEmits g site os xs Rest block) (call g site os xs c) to way Must k block p scope
      later env top under d w) where
    pub fit : CallFits l a f g
    fit = b.fine.1.0

    sv : SavesFit l a f pf.slots (slots_of (place_of a) (variables q)) scope c later site g
    sv = b.fine.1.1.0

    in_range : (r : ℕ) → is_among r (saves_at a site) ≡ true → (8 ≤ r) × (r < 32)
    in_range r among = let y = b.fine.1.1.0.is_live r among in let o
        = subst (λ x. IsOwn l a f (slots_of (place_of a) (variables q)) x) y.1.1
        (b.owned y.0 y.1.0.0) in (o.0, o.1.0)

    abbrev first_code : List Instr
    first_code = moves_code (save_moves (slots_of (place_of a) (variables q)) (saves_at a site))
        ++ (moves_code b.emits.0 ++ number_moves
        (argument_spots 0 (map (place_of a) fit.called.params)) (sources l a os))

    abbrev second_code : List Instr
    second_code = moves_code b.emits.1 ++ moves_code
        (restore_moves (slots_of (place_of a) (variables q)) (saves_at a site))

    block_is : block ≡ (plain first_code ++ Jump 1 g ∷ plain second_code) ++ b.emits.4.0
    block_is =
        let args_are : argument_spots_of l a g ≡ argument_spots 0
        (map (place_of a) fit.called.params) = ap (params_of a) fit.is_called in
        subst (λ x. block ≡
        (plain (moves_code (save_moves (slots_of (place_of a) (variables q)) (saves_at a site))
        ++ (moves_code b.emits.0 ++ number_moves x (sources l a os)))
        ++ Jump 1 g ∷ plain second_code) ++ b.emits.4.0) args_are b.emits.4.1

    parts : Cut items p (plain first_code ++ Jump 1 g ∷ plain second_code) b.emits.4.0 block
    parts = cut items p (plain first_code ++ Jump 1 g ∷ plain second_code) b.emits.4.0 block
        block_is b.stands

    abbrev at_call : ℕ
    at_call = p + length (plain first_code)

    call_stands : Stands items (p + length (plain first_code)) (Jump 1 g ∷ plain second_code)
    call_stands = back items p (plain first_code) (Jump 1 g ∷ plain second_code) parts.first

    owned_of : (y : ℕ) (v : Word) → Needed (call g site os xs c) env Must y v
        → IsOwn l a f (slots_of (place_of a) (variables q)) (place_of a y)
    owned_of y v (inl h) = b.owned y (b.scoped y v h.1)
    owned_of y v (inr h) = b.owned y (b.must y v h).0

    -- up to the procedure's label
    record Begun (vs : List Word) : Type 0 where
      pub to' : Data
      pub place : ℕ
      pub found_label : label_from 0 items g ≡ Some place
      pub ran : Ran lay items begins (at (bases stack) lay items p d) (m ∷ outer) w
          (at (bases stack) lay items place to') (suc (p + length (plain first_code)) ∷ m ∷ outer) w
      pub crossed : Crossed l a lay stack j pf.slots (slots_of (place_of a) (variables q)) g
          (saves_at a site) d to'
      pub world : HoldsWorld l a cells stack lay to' w
      pub sp : to'.regs 2 ≡ d.regs 2
      pub link : to'.regs 1 ≡ lay.address (suc (p + length (plain first_code)))
      pub hold : AllHold l.width (argument_spots 0 (map (place_of a) fit.called.params)) vs
          (regs_of to')

    begun : (vs : List Word) → operands l (words_at a) env os ≡ Some vs → Begun vs
    begun vs e =
        let own = slots_of (place_of a) (variables q) in
        let c0 = call g site os xs c in
        let g_fine = s.fine g fit.called fit.is_called in
        let to_args = argument_spots 0 (map (place_of a) fit.called.params) in
        let args_are : argument_spots_of l a g ≡ argument_spots 0
        (map (place_of a) fit.called.params) = ap (params_of a) fit.is_called in
        let ss = sources l a os in
        let order = subst (λ x. IsOrder b.emits.0 (spot_moves x (sources l a os))) args_are
        b.emits.2 in
        let s1 = front items p (plain first_code) (Jump 1 g ∷ plain second_code) parts.first in
        let A = saved_all l a lay stack f j pf.slots (slots_of (place_of a) (variables q)) pf.enough
        (saves_at a site) in_range sv.room d b.stood.world.good b.stood.frame in
        let frame1 = in_frame lay.code (bases stack) j pf.slots b.stood.frame A.keeps in
        let world1 = world_kept l a cells stack lay j pf.slots d A.to w b.stood.world A.does.good
        A.keeps in
        let same1 = λ (x : Spot) (o : IsOwn l a f (slots_of (place_of a) (variables q)) x). own_same
        l a lay stack f j pf.slots (slots_of (place_of a) (variables q)) pf.enough
        (saves_at a site) in_range sv.room d A x o in
        let stood1 : Stood l a cells stack lay true f j pf.slots d0 (lay.address m)
        (Needed c0 env Must) A.to w = record {
          world = world1;
          frame = frame1;
          home = A.keeps.outside j (inl (omega arith)) ∙ b.stood.home;
          vars = λ y v h. same1 (place_of a y) (owned_of y v h) ∙ b.stood.vars y v h;
          untouched = record {
            above = λ x le. A.keeps.outside x (inr le) ∙ b.stood.untouched.above x le;
            others = λ r keep. A.registers r keep.low keep.high ∙ b.stood.untouched.others r keep;
          };
        } in
        let reads = operands_read l a cells stack lay items begins s calls_n n f q pf true j m outer
        d0 u c0 scope env Must A.to w os vs stood1 b.scoped b.owned
        (λ x h. among_left x (used_by_all os) (uses c) h) b.fine.0 e in
        let places = own_places l a lay stack g j pf.slots 0 to_args (omega arith) g_fine.arguments
        in
        let z = gathered lay.code (bases stack) j pf.slots b.emits.0 to_args ss A.to order
        A.does.good frame1 places reads.readable g_fine.arguments_differ in
        let ran1 = plain_ran l a cells stack lay items begins first_code p d z.data' (m ∷ outer) w
        b.stood.world.good (does_on lay.code (bases stack) A.does z.does) s1 in
        let world2 = world_kept l a cells stack lay j pf.slots A.to z.data' w world1 z.does.good
        z.keeps in
        let hold = all_hold l.width (read lay.code (bases stack) j pf.slots A.to)
        (spots lay.code (bases stack) j pf.slots z.data') to_args ss vs reads.as_many z.each
        reads.are in
        let there = s.procedures g fit.called fit.is_called in
        let label = (subst (λ x. Stands items there.place x) there.emits.is there.stands).0 in
        let label_is = s.once there.place g label in
        let pj = p + length (plain first_code) in
        let d3 = jumped (bases stack) lay items pj 1 z.data' in
        let step = calls_to (bases stack) lay items pj there.place g z.data' w.input (m ∷ outer)
        call_stands.0 label_is in
        let jump_reg = λ (r : ℕ) (z0 : r ≢ 0) (z7 : r ≢ 7) (z1 : r ≢ 1). jumped_reg l a cells stack
        lay items begins s pj 1 r z.data' z0 z7 z1 in
        let good3 = good_jumped l a cells stack lay items begins s pj 1 (Jump 1 g) z.data'
        call_stands.0 z.does.good in
        let regs_same = λ (r : ℕ) (lo : 8 ≤ r). jump_reg r (omega arith) (omega arith) (omega arith)
        in
        record {
          to' = d3;
          place = there.place;
          found_label = label_is;
          ran = ran_on lay items begins ran1
              (quiet lay items begins w w step refl refl refl refl refl);
          crossed = record {
            low_slots = λ x lt. z.others (Slot x)
                ((let le = pf.enough in omega arith), λ e. absurd (cc))
                (slot_not_free l a g x to_args g_fine.arguments) ∙ A.low_slots x lt;
            saves = λ i r x. let inside = index_inside (saves_at a site) i r x in let room_is
                = sv.room in z.others (Slot (slots_of (place_of a) (variables q) + i))
                ((omega arith), λ e. absurd (cc))
                (slot_not_free l a g (slots_of (place_of a) (variables q) + i) to_args
                g_fine.arguments) ∙ A.saves i r x;
            kept = λ r keep. regs_same r keep.low ∙ z.others (Reg r)
                ((keep.low, keep.high), λ e. absurd (cc))
                (kept_not_own l a g 0 r to_args keep g_fine.arguments) ∙ A.registers r keep.low
                keep.high;
            outside = λ t o le. z.keeps.outside t o ∙ A.keeps.outside t o;
          };
          world = world_same l a cells stack lay z.data' d3 w world2 good3
              (jump_reg 3 (omega arith) (omega arith) (omega arith))
              (jump_reg 4 (omega arith) (omega arith) (omega arith)) refl refl;
          sp = jump_reg 2 (omega arith) (omega arith) (omega arith) ∙ z.keeps.frame ∙ A.keeps.frame;
          link = s.rises.far_keeps pj 1 (set_reg z.data'.regs 1 (lay.address (suc pj)))
              (omega arith) (omega arith) ∙ set_here z.data'.regs 1 (lay.address (suc pj));
          hold = free_hold l a lay stack j pf.slots g to_args vs z.data' d3 g_fine.arguments
              (λ r lo hi. regs_same r lo) hold;
        }

    -- from the procedure's return on
    ended : (rs : List Word) (env' : Env) (e : Data) (v : World)
        → Crossed l a lay stack j pf.slots (slots_of (place_of a) (variables q)) g (saves_at a site)
        d e → HoldsWorld l a cells stack lay e v → e.regs 2 ≡ d.regs 2 → v.left ≤ w.left
        → AllHold l.width (result_spots 10 fit.called.results) rs (regs_of e)
        → length rs ≡ fit.called.results → with_vars xs rs env ≡ Some env'
        → ((d' : Data) → Opened l a cells stack lay items begins f q framed pf.slots j m outer d0 u
        n true (Rest b.emits.4.0) c to way Must k b.emits.4.0
        (p + length (plain first_code ++ Jump 1 g ∷ plain second_code)) (xs ++ scope) later env'
        top under d' v
        → Simulates l a cells stack lay items begins f q framed pf.slots j m outer d0 u n calls_n c
        to way Must (p + length (plain first_code ++ Jump 1 g ∷ plain second_code)) env' top
        under d' v)
        → Does' lay items begins l.width cells
        (Given l a cells stack lay items framed f j pf.slots d0 m outer to way Must)
        (at (bases stack) lay items (suc (p + length (plain first_code))) e) (m ∷ outer) v
        (code l (words_at a) (room l a cells stack lay items begins) calls_n env' top under c v)
    ended rs env' e v x world sp left hold many bind more =
        let binds = b.fine.1.1.1.0 in
        let g_fine = s.fine g fit.called fit.is_called in
        let results_are : result_spots_of l g ≡ result_spots 10 fit.called.results
        = ap (λ o. result_spots 10 (results_of o)) fit.is_called in
        let order = subst (λ x. IsOrder b.emits.1 (moves_between (map (place_of a) xs) x))
        results_are b.emits.3 in
        let frame1 : InFrame lay.code (bases stack) j pf.slots e
        = record {
          sp = sp ∙ b.stood.frame.sp;
          room = let r = b.stood.frame.room in let n1
              = world.stack_words in let n2 = b.stood.world.stack_words in omega arith;
        } in
        let R = restored_all l a lay stack f j pf.slots (slots_of (place_of a) (variables q))
        pf.enough (saves_at a site) in_range sv.room g fit.called.results xs b.emits.1 rs e
        world.good frame1 sv.ascending order g_fine.results binds.1
        (apart_different l a scope xs c later binds.0) apart hold many in
        let stood = stood_after l a cells stack lay f j pf.slots
        (slots_of (place_of a) (variables q)) d0 (lay.address m) pf.enough g site
        (call g site os xs c) c xs b.emits.1 rs scope later env env' Must d e w v in_range
        sv.room b.stood x world sp fit sv binds bind R
        (λ y h. among_right y (used_by_all os) (uses c) h) b.scoped b.must b.owned in
        let pj = p + length (plain first_code) in
        let ran = plain_ran l a cells stack lay items begins second_code (suc pj) e R.to (m ∷ outer)
        v world.good R.does call_stands.1 in
        let behind : suc pj + length (plain second_code) ≡ p + length
        (plain first_code ++ Jump 1 g ∷ plain second_code) = let y
        = length-append (plain first_code) (Jump 1 g ∷ plain second_code) in omega arith in
        does_after lay items begins l.width cells
        (Given l a cells stack lay items framed f j pf.slots d0 m outer to way Must)
        (code l (words_at a) (room l a cells stack lay items begins) calls_n env' top under c v)
        (subst (λ y. Ran lay items begins (at (bases stack) lay items (suc pj) e) (m ∷ outer) v
        (at (bases stack) lay items y R.to) (m ∷ outer) v) behind ran)
        (more R.to (record {
          emits = b.emits.4.2;
          stands = parts.more;
          ready = ready_at l a cells stack lay items begins way (p + length block)
              (p + length (plain first_code ++ Jump 1 g ∷ plain second_code) + length b.emits.4.0)
              parts.end b.ready;
          above = b.above;
          fine = b.fine.1.1.1.1;
          scoped = still_scoped xs rs scope env env' bind b.scoped;
          owned = scope_owned l a f (slots_of (place_of a) (variables q)) xs scope binds.1 b.owned;
          must = λ y z e. let both = b.must y z e in (among_right y xs scope both.0, both.1);
          clear = b.clear;
          to_own = b.to_own;
          to_differ = b.to_differ;
          in_registers = b.in_registers;
          stood = stood;
          base = b.base;
          left = let le = b.left in omega arith;
          top_is = b.top_is;
          under_is = b.under_is;
        }))
      where
        apart : (r : ℕ) → is_among r (saves_at a site) ≡ true
            → NotAmong (Reg r) (map (place_of a) xs)
        apart r among = let y = sv.is_live r among in subst (λ z. NotAmong z (map (place_of a) xs))
            y.1.1 (apart_not_among l a scope xs c later y.0 b.fine.1.1.1.0.0 y.1.0)

    pub call_statement :
        ((rs : List Word) (env' : Env) (d' : Data) (v : World)
        → Opened l a cells stack lay items begins f q framed pf.slots j m outer d0 u n true
        (Rest b.emits.4.0) c to way Must k b.emits.4.0
        (p + length (plain first_code ++ Jump 1 g ∷ plain second_code)) (xs ++ scope) later env' top
        under d' v
        → Simulates l a cells stack lay items begins f q framed pf.slots j m outer d0 u n calls_n c
        to way Must (p + length (plain first_code ++ Jump 1 g ∷ plain second_code)) env' top
        under d' v)
        → Simulates l a cells stack lay items begins f q framed pf.slots j m outer d0 u n calls_n
        (call g site os xs c) to way Must p env top under d w
    unfolding code
    call_statement more = by_operands (operands l (words_at a) env os) refl
      where
        by_vars : (r : Option Env) (rs : List Word) → with_vars xs rs env ≡ r
            → (e : Data) (v : World) → Crossed l a lay stack j pf.slots
            (slots_of (place_of a) (variables q)) g (saves_at a site) d e
            → HoldsWorld l a cells stack lay e v → e.regs 2 ≡ d.regs 2 → v.left ≤ w.left
            → AllHold l.width (result_spots 10 fit.called.results) rs (regs_of e)
            → length rs ≡ fit.called.results
            → Does' lay items begins l.width cells
            (Given l a cells stack lay items framed f j pf.slots d0 m outer to way Must)
            (at (bases stack) lay items (suc (p + length (plain first_code))) e) (m ∷ outer) v
            (need r v
            (λ env'. code l (words_at a) (room l a cells stack lay items begins) calls_n env'
            top under c v))
        by_vars None rs bind e v x world sp left hold many = tt
        by_vars (Some env') rs bind e v x world sp left hold many
            = ended rs env' e v x world sp left hold many bind (λ d' b'. more rs env' d' v b')

        by_words : (vs : List Word) → operands l (words_at a) env os ≡ Some vs
            → Does' lay items begins l.width cells
            (Given l a cells stack lay items framed f j pf.slots d0 m outer to way Must)
            (at (bases stack) lay items p d) (m ∷ outer) w
            (then_do (calls_n g vs top w)
            (λ rs w'. need (with_vars xs rs env) w'
            (λ env'. code l (words_at a) (room l a cells stack lay items begins) calls_n env'
            top under c w')))
        by_words vs e =
            let z = begun vs e in
            let pj = p + length (plain first_code) in
            let back_found = comes_back lay items s.rises pj (ap is_instruction call_stands.0)
            (behind_call l a cells stack lay items begins s pj 1 g call_stands.0) in
            let top_is = b.top_is in
            let whole_stack : 4 * (j + top) ≡ stack = omega arith in
            let callee = called g fit.called z.place (suc pj) (m ∷ outer) vs top j w z.to'
            fit.is_called z.found_label z.world
            (base_lasts l a g (stack_end - stack) d z.to' z.crossed.kept
            (base_lasts l a f (stack_end - stack) d0 d b.stood.untouched.others b.base))
            (z.sp ∙ b.stood.frame.sp) whole_stack z.link back_found z.hold b.left in
            let G1 = λ (rs : List Word) (w' : World) (p' : Point) (calls' : List ℕ). (d' : Data)
            × ((p' ≡ at (bases stack) lay items (suc pj) d')
            × ((calls' ≡ m ∷ outer) ×
            (Back l a cells stack lay g j z.to' (result_spots 10 fit.called.results) rs d' w'
            × (length rs ≡ fit.called.results)))) in
            let G = Given l a cells stack lay items framed f j pf.slots d0 m outer to way Must in
            let onward = λ (rs : List Word) (w' : World). need (with_vars xs rs env) w'
            (λ env'. code l (words_at a) (room l a cells stack lay items begins) calls_n env'
            top under c w') in
            does_after lay items begins l.width cells G (then_do (calls_n g vs top w) onward) z.ran
            (does_then lay items begins l.width cells G1 G
            (at (bases stack) lay items z.place z.to')
            (suc pj ∷ m ∷ outer) w (calls_n g vs top w) onward callee
            (λ rs v p' c' le given.
            let back_to = given.1.1.1.0 in
            subst (λ x. Does' lay items begins l.width cells G x c' v (onward rs v)) (sym given.1.0)
            (subst (λ x. Does' lay items begins l.width cells G
            (at (bases stack) lay items (suc pj) given.0) x v
            (onward rs v)) (sym given.1.1.0)
            (by_vars (with_vars xs rs env) rs refl given.0 v
            (crossed_back l a cells stack lay j pf.slots (slots_of (place_of a) (variables q)) g
            (saves_at a site) d z.to' given.0 (result_spots 10 fit.called.results) rs v
            z.crossed back_to)
            back_to.world (back_to.sp ∙ sym b.stood.frame.sp) le back_to.results given.1.1.1.1))))

        by_operands : (r : Option (List Word)) → operands l (words_at a) env os ≡ r
            → Does' lay items begins l.width cells
            (Given l a cells stack lay items framed f j pf.slots d0 m outer to way Must)
            (at (bases stack) lay items p d) (m ∷ outer) w
            (need r w
            (λ vs. then_do (calls_n g vs top w)
            (λ rs w'. need (with_vars xs rs env) w'
            (λ env'. code l (words_at a) (room l a cells stack lay items begins) calls_n env'
            top under c w'))))
        by_operands None e = tt
        by_operands (Some vs) e = by_words vs e
