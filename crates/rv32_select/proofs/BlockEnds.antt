-- The ends of blocks: words that are given, and no alternative.
use Rattle.std.proofs.Common.{◌≡◌, ◌≢◌, ℕ, zero, suc, ◌+◌, ◌*◌, ◌^◌, ◌<◌, ◌≤◌, List, [], ◌∷◌, length, get_or, true, Some, None, inl, inr, refl, sym, ap, ◌∙◌, subst, arith, Bool, false}
use Rattle.std.specs.Prelude.{Option, pos, slice_get}
use Rattle.rv32_machine.specs.Arithmetic.{plus}
use Rattle.rv32_machine.specs.Steps.{set_reg}
use Rattle.parallel_move.specs.declared.Spot.{Spot}
use Rattle.parallel_move.specs.declared.Spot.TheVariants.{Reg, Slot, Scratch}
use Rattle.parallel_move.specs.Moves.{Values}
use Rattle.low_code.specs.declared.program.Operand.{Operand}
use Rattle.low_code.specs.Tree.{Code, fail, Procedure, Program}
use Rattle.low_code.specs.Formed.{uses, used_by, used_by_all, variables}
use Rattle.low_code.specs.Values.{Word, Env, World, and_then}
use Rattle.low_code.specs.Run.{Calls, code, operand, operands}
use Rattle.register_alloc.specs.Fits.{slots_of}
use Rattle.register_alloc.specs.Assignment.{Assignment, place_of, words_at}
use Rattle.rv32_items.specs.declared.Item.{Item}
use Rattle.rv32_items.specs.declared.Item.TheVariants.{Jump}
use Rattle.rv32_items.specs.Course.{Layout}
use Rattle.rv32_select.specs.declared.source.Source.{Source}
use Rattle.rv32_select.specs.declared.source.Continuation.{Continuation}
use Rattle.rv32_select.specs.Emit.{leave_code, result_spots}
use Rattle.rv32_select.specs.IsSelected.{sources}
use Rattle.low_code.specs.Literals.{AreSmall}
use Rattle.rv32_select.proofs.Courses.{Stands}
use Rattle.rv32_select.proofs.Straight.{Data, with_reg, Good, good_reg, Does, does_on, does_load_stack, at}
use Rattle.rv32_select.proofs.NumberParts.{does_add}
use Rattle.rv32_select.proofs.JumpStretches.{jumped, links, there_less, address_small}
use Rattle.rv32_select.proofs.FrameViews.{spots, InFrame}
use Rattle.rv32_select.proofs.OperandsRead.{read, IsPlace}
use Rattle.rv32_select.proofs.Gathering.{IsPair, AllReadable}
use Rattle.rv32_select.proofs.Relation.{bases, regs_of, word_of, AllHold, HoldsCells, HoldsWorld, Home, Stood, ends_on, quiet, Needed}
use Rattle.rv32_select.proofs.PlaceFacts.{IsOwn, ProcedureFine, Setting}
use Rattle.rv32_select.proofs.BlockFacts.{Block, Simulates}
use Rattle.rv32_select.proofs.OneBound.{operand_read}
use Rattle.rv32_select.proofs.Leaves.{Remains, leaves_now}
use Rattle.rv32_select.proofs.Stops.{good_far, no_alternative_stop, no_alternative_remains}
use Rattle.seq.specs.Lists.{is_among}
use Rattle.rv32_machine.proofs.Registers.{set_there, set_here}
use Rattle.seq.proofs.Counted.{among_left, among_right}

-- each operand is read as its word
abbrev pub EachIs : (width : ℕ) → (Source → ℕ) → List Source → List Word → Type 0
EachIs width r [] vs = Unit {0}
EachIs width r (s ∷ ss) [] = Unit {0}
EachIs width r (s ∷ ss) (v ∷ vs) = (r s ≡ word_of width v) × EachIs width r ss vs

pub all_hold : (width : ℕ) (r : Source → ℕ) (u : Values) (to : List Spot) (ss : List Source)
    (vs : List Word) → length ss ≡ length vs →
    ((t : Spot) (s : Source) → IsPair t s to ss → u t ≡ r s) → EachIs width r ss vs
    → AllHold width to vs u
all_hold width r u [] ss vs len h e = tt
all_hold width r u (t ∷ to) [] [] len h e = tt
all_hold width r u (t ∷ to) [] (v ∷ vs) len h e = absurd (omega arith)
all_hold width r u (t ∷ to) (s ∷ ss) [] len h e = tt
all_hold width r u (t ∷ to) (s ∷ ss) (v ∷ vs) len h e
    = (
      h t s (inl (refl, refl)) ∙ e.0,
      all_hold width r u to ss vs (omega arith)
          (λ x y p. h x y (inr p)) e.1,
    )

-- results stand in the same registers, however many are asked for
pub results_widen : (width r n m : ℕ) (vs : List Word) (u : Values) → length vs ≡ n
    → AllHold width (result_spots r n) vs u → AllHold width (result_spots r m) vs u
results_widen width r n zero vs u e h = tt
results_widen width r zero (suc m) [] u e h = tt
results_widen width r zero (suc m) (v ∷ vs) u e h = absurd (omega arith)
results_widen width r (suc n) (suc m) [] u e h = tt
results_widen width r (suc n) (suc m) (v ∷ vs) u e h
    = (h.0, results_widen width (suc r) n m vs u (omega arith) h.1)

-- what is in registers is so whatever the frame
pub results_in_registers : (l : Program) (lay : Layout) (stack j slots r n : ℕ) (vs : List Word)
    (d : Data) → AllHold l.width (result_spots r n) vs (spots lay.code (bases stack) j slots d)
    → AllHold l.width (result_spots r n) vs (regs_of d)
results_in_registers l lay stack j slots r zero vs d h = tt
results_in_registers l lay stack j slots r (suc n) [] d h = tt
results_in_registers l lay stack j slots r (suc n) (v ∷ vs) d h
    = (h.0, results_in_registers l lay stack j slots (suc r) n vs d h.1)

pub same_registers : (l : Program) (r n : ℕ) (vs : List Word) (d d' : Data) → 8 ≤ r
    → ((x : ℕ) → 8 ≤ x → d'.regs x ≡ d.regs x) → AllHold l.width (result_spots r n) vs (regs_of d)
    → AllHold l.width (result_spots r n) vs (regs_of d')
same_registers l r zero vs d d' lo e h = tt
same_registers l r (suc n) [] d d' lo e h = tt
same_registers l r (suc n) (v ∷ vs) d d' lo e h =
    (e r lo ∙ h.0, same_registers l (suc r) n vs d d' (omega arith) e h.1)

-- ---- the frame goes

module _ (l : Program) (a : Assignment) (cells stack : ℕ) (lay : Layout) where
  pub record Left (framed : Bool) (words j slots : ℕ) (d : Data) : Type 0 where
    pub to : Data
    pub does : Does lay.code (bases stack) (leave_code framed words) d to
    pub sp : to.regs 2 ≡ (bases stack).stack + 4 * (j + (1 + slots))
    pub link : (address : ℕ) → Home l a cells stack lay framed j address d → to.regs 1 ≡ address
    pub next : to.regs 3 ≡ d.regs 3
    pub end : to.regs 4 ≡ d.regs 4
    pub eights : (r : ℕ) → 8 ≤ r → to.regs r ≡ d.regs r
    pub heap : to.heap ≡ d.heap
    pub stack' : to.stack ≡ d.stack

  pub leaves : (framed : Bool) (words j slots : ℕ) (d : Data) → Good lay.code (bases stack) d
      → InFrame lay.code (bases stack) j slots d → words ≡ 1 + slots → 4 * words < 2 ^ 28
      → Left framed words j slots d
  leaves true words j slots d g f is small =
      let sp = f.sp in
      let in_stack = f.room in
      let top = g.top in
      let first = does_load_stack lay.code (bases stack) 1 2 (pos 0) j d g
      (let e : plus (d.regs 2) 0 ≡ (bases stack).stack + 4 * j = omega arith in e) (omega arith)
      in
      let d1 = with_reg d 1 (get_or d.stack j 0) in
      let add = does_add lay.code (bases stack) 2 2 (4 * words) d1 first.good (omega arith)
      (omega arith) (omega arith) in
      let sum : plus (d.regs 2) (4 * words) ≡ (bases stack).stack + 4 * (j + (1 + slots))
      = omega arith in
      record {
        to = with_reg (with_reg d1 5 add.scratch) 2 (plus (d.regs 2) (4 * words));
        does = does_on lay.code (bases stack) first add.does;
        sp = sum;
        link = λ address h. h;
        next = refl;
        end = refl;
        eights = λ r h. set_there (set_reg (set_reg d.regs 1 (get_or d.stack j 0)) 5 add.scratch) 2
            (plus (d.regs 2) (4 * words)) r (omega arith) ∙ set_there
            (set_reg d.regs 1 (get_or d.stack j 0)) 5 add.scratch r (omega arith) ∙ set_there d.regs
            1 (get_or d.stack j 0) r (omega arith);
        heap = refl;
        stack' = refl;
      }
  leaves false words j slots d g f is small =
      let sp = f.sp in
      let in_stack = f.room in
      let top = g.top in
      let add = does_add lay.code (bases stack) 2 2 (4 * words) d g (omega arith) (omega arith)
      (omega arith) in
      let sum : plus (d.regs 2) (4 * words) ≡ (bases stack).stack + 4 * (j + (1 + slots))
      = omega arith in
      record {
        to = with_reg (with_reg d 5 add.scratch) 2 (plus (d.regs 2) (4 * words));
        does = add.does;
        sp = sum;
        link = λ address h. h;
        next = refl;
        end = refl;
        eights = λ r h. set_there (set_reg d.regs 5 add.scratch) 2 (plus (d.regs 2) (4 * words)) r
            (omega arith) ∙ set_there d.regs 5 add.scratch r (omega arith);
        heap = refl;
        stack' = refl;
      }

  -- the data beside frames, where registers from x8 on, x3, x4, the heap and the stack's length are
  -- as before
  pub world_same : (d d' : Data) (w : World) → HoldsWorld l a cells stack lay d w
      → Good lay.code (bases stack) d' → d'.regs 3 ≡ d.regs 3 → d'.regs 4 ≡ d.regs 4
      → d'.heap ≡ d.heap → length d'.stack ≡ length d.stack → HoldsWorld l a cells stack lay d' w
  world_same d d' w h g next end heap words = record {
    good = g;
    cells_are = subst (λ x. HoldsCells l.width x w.cells) (sym heap) h.cells_are;
    next = next ∙ h.next;
    end = end ∙ h.end;
    room = h.room;
    globals = h.globals;
    input = h.input;
    heap_words = ap length heap ∙ h.heap_words;
    stack_words = ap (λ n. 4 * n) words ∙ h.stack_words;
  }

module _ (l : Program) (a : Assignment) (cells stack : ℕ) (lay : Layout) (items : List Item)
    (begins : List ℕ) (s : Setting l a cells stack lay items begins) where
  -- what a jump leaves of the data
  pub good_jumped : (n link : ℕ) (i : Item) (d : Data) → slice_get items n ≡ Some i
      → Good lay.code (bases stack) d → Good lay.code (bases stack)
      (jumped (bases stack) lay items n link d)
  good_jumped n link i d here g =
      let inside = there_less items n i here in
      let small = address_small lay items s.rises (suc n) (omega arith) in
      good_far items lay (bases stack) s.rises n (with_reg d link (lay.address (suc n)))
      (good_reg lay.code (bases stack) d link (lay.address (suc n)) g small)

  pub jumped_reg : (n link r : ℕ) (d : Data) → r ≢ 0 → r ≢ 7 → r ≢ link
      → (jumped (bases stack) lay items n link d).regs r ≡ d.regs r
  jumped_reg n link r d zero_ seven ne = s.rises.far_keeps n r
      (set_reg d.regs link (lay.address (suc n))) zero_ seven ∙ set_there d.regs link
      (lay.address (suc n)) r ne

  pub jumped_spot : (n link j slots : ℕ) (d : Data) (t : Spot) → link < 8
      → IsPlace lay.code (bases stack) j slots t → spots lay.code (bases stack) j slots
      (jumped (bases stack) lay items n link d) t ≡ spots lay.code (bases stack) j slots d t
  jumped_spot n link j slots d (Reg r) lt o = let lo = o.0.0
      in jumped_reg n link r d (omega arith) (omega arith) (omega arith)
  jumped_spot n link j slots d (Slot k) lt o = refl
  jumped_spot n link j slots d Scratch lt o = absurd (o.1 refl)

module _ (l : Program) (a : Assignment) (cells stack : ℕ) (lay : Layout) (items : List Item)
    (begins : List ℕ) (s : Setting l a cells stack lay items begins) (calls_n : Calls) (n : ℕ)
    (f : ℕ) (q : Procedure) (pf : ProcedureFine l a f q) (framed : Bool) (j m : ℕ) (outer : List ℕ)
    (d0 : Data) (u : ℕ) where
  -- no alternative
  pub fail_simulated : (to : List Spot) (way : Continuation) (Must : ℕ → Word → Type 0) (k k' : ℕ)
      (block : List Item) (p : ℕ) (scope later : List ℕ) (env : Env) (top : ℕ) (under : Option ℕ)
      (d : Data) (w : World)
      → Block l a cells stack lay items begins f q framed pf.slots j m outer d0 u n fail to way Must
      k k' block p scope later env top under d w
      → Simulates l a cells stack lay items begins f q framed pf.slots j m outer d0 u n calls_n fail
      to way Must p env top under d w
  unfolding code
  fail_simulated to way Must k k' block p scope later env top under d w b =
      let stop = no_alternative_stop l a cells stack lay items begins s in
      let here : slice_get items p ≡ Some (Jump 5 (length l.procs))
      = (subst (λ x. Stands items p x) b.emits.1 b.stands).0 in
      let step = links (bases stack) lay items p stop.place 5 (length l.procs) d w.input (m ∷ outer)
      refl here stop.found in
      let ran = quiet lay items begins w w step refl refl refl refl refl in
      let good = good_jumped l a cells stack lay items begins s p 5 (Jump 5 (length l.procs)) d here
      b.stood.world.good in
      let to = jumped (bases stack) lay items p 5 d in
      let five : to.regs 5 ≡ lay.address (suc p) = s.rises.far_keeps p 5
      (set_reg d.regs 5 (lay.address (suc p))) (omega arith) (omega arith) ∙ set_here d.regs 5
      (lay.address (suc p)) in
      let remains = subst
      (λ x. Remains lay items s.stops_at x w.input (at (bases stack) lay items stop.place to))
      five (no_alternative_remains l a cells stack lay items begins s to w.input good) in (
        ends_on lay items begins l.width cells ran
            (stop.ends to (m ∷ outer) w good
            (λ ne. (
              b.stood.world.room,
              jumped_reg l a cells stack lay items begins s p 5 3 d (omega arith) (omega arith)
                  (omega arith) ∙ b.stood.world.next,
            ))),
        leaves_now lay items s.stops_at (length l.procs) here s.last step remains,
      )

  -- the operands of a statement are read as their words
  pub record OperandsRead (os : List Operand) (vs : List Word) (d : Data) : Type 0 where
    pub readable : AllReadable lay.code (bases stack) j pf.slots (sources l a os)
    pub are : EachIs l.width (read lay.code (bases stack) j pf.slots d) (sources l a os) vs
    pub as_many : length (sources l a os) ≡ length vs

  pub operands_read : (c0 : Code) (scope : List ℕ) (env : Env) (Must : ℕ → Word → Type 0) (d : Data)
      (w : World) (os : List Operand) (vs : List Word)
      → Stood l a cells stack lay framed f j pf.slots d0 (lay.address m) (Needed c0 env Must) d w
      → ((x : ℕ) (v : Word) → env x ≡ Some v → is_among x scope ≡ true)
      → ((x : ℕ) → is_among x scope ≡ true → IsOwn l a f (slots_of (place_of a) (variables q))
      (place_of a x))
      → ((x : ℕ) → is_among x (used_by_all os) ≡ true → is_among x (uses c0) ≡ true) → AreSmall os
      → operands l (words_at a) env os ≡ Some vs → OperandsRead os vs d
  operands_read c0 scope env Must d w [] vs st scoped owned incl small e = let none : [] ≡ vs = cc
      in record { readable = tt; are = tt; as_many = ap length none }
  operands_read c0 scope env Must d w (o ∷ os) vs st scoped owned incl small e =
      by_first (λ ws e2. operands_read c0 scope env Must d w os ws st scoped owned
      (λ x h. incl x (among_right x (used_by o) (used_by_all os) h)) small.1 e2)
      (operand l (words_at a) env o) refl e
    where
      by_rest : ((ws : List Word) → operands l (words_at a) env os ≡ Some ws → OperandsRead os ws d)
          → (v : Word) → operand l (words_at a) env o ≡ Some v → (r : Option (List Word))
          → operands l (words_at a) env os ≡ r → and_then r (λ bs. Some (v ∷ bs)) ≡ Some vs
          → OperandsRead (o ∷ os) vs d
      by_rest rest v e1 None e2 e3 = absurd (cc)
      by_rest rest v e1 (Some ws) e2 e3 =
          let is : v ∷ ws ≡ vs = cc in
          let one = operand_read l a cells stack lay items begins s calls_n n f q pf framed j m
          outer d0 u c0 scope env Must d w o v st scoped owned
          (λ x h. incl x (among_left x (used_by o) (used_by_all os) h)) small.0 e1 in
          let more = rest ws e2 in
          record {
            readable = (one.0, more.readable);
            are = subst
                (λ x. EachIs l.width (read lay.code (bases stack) j pf.slots d)
                (sources l a (o ∷ os)) x) is (one.1, more.are);
            as_many = ap suc more.as_many ∙ ap length is;
          }

      by_first :
          ((ws : List Word) → operands l (words_at a) env os ≡ Some ws → OperandsRead os ws d)
          → (r : Option Word) → operand l (words_at a) env o ≡ r
          → and_then r (λ v. and_then (operands l (words_at a) env os) (λ bs. Some (v ∷ bs))) ≡ Some
          vs → OperandsRead (o ∷ os) vs d
      by_first rest None e1 e2 = absurd (cc)
      by_first rest (Some v) e1 e2 = by_rest rest v e1 (operands l (words_at a) env os) refl e2
