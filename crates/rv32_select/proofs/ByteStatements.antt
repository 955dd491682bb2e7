-- A byte that is put, and one that is got.
use Rattle.std.proofs.Common.{◌≡◌, ◌≢◌, ℕ, suc, ◌+◌, ◌*◌, ◌%◌, ◌^◌, ◌<◌, ◌≤◌, List, [], ◌∷◌, ◌++◌, length, drop, get_or, set as set_at, Bool, true, false, Some, None, inl, inr, refl, sym, ap, ◌∙◌, subst, arith, append_assoc, length-append, get_or-set_same, get_or-set_other}
use Rattle.std.specs.Prelude.{Option, pos, negsuc, nat_eq, slice_get}
use Rattle.std.proofs.lemmas.Bool.Decides.{nat_tests}
use Rattle.std.proofs.Math.ListN.{length-set}
use Rattle.headline.specs.Carries.{IsBytes}
use Rattle.rv32_isa.specs.declared.instr.Instr.{Instr}
use Rattle.rv32_isa.specs.declared.instr.Instr.TheVariants.{Load, Store, OpImm, Op, Ecall}
use Rattle.rv32_isa.specs.declared.instr.LoadKind.TheVariants.{Lw}
use Rattle.rv32_isa.specs.declared.instr.StoreKind.TheVariants.{Sw}
use Rattle.rv32_isa.specs.declared.instr.ImmKind.TheVariants.{Addi}
use Rattle.rv32_isa.specs.declared.instr.OpKind.TheVariants as op
use Rattle.rv32_machine.specs.Arithmetic.{plus}
use Rattle.rv32_machine.specs.Steps.{set_reg}
use Rattle.parallel_move.specs.declared.Spot.{Spot}
use Rattle.parallel_move.specs.declared.Spot.TheVariants.{Reg, Slot, Scratch}
use Rattle.low_code.specs.declared.program.Operand.{Operand}
use Rattle.low_code.specs.Tree.{Code, put, get, Procedure, Program}
use Rattle.low_code.specs.Formed.{uses, used_by, variables}
use Rattle.low_code.specs.Values.{Word, number, Env, World, with_var, need}
use Rattle.low_code.specs.Run.{Calls, code, operand, number_in, written, next_byte, byte_taken}
use Rattle.register_alloc.specs.Fits.{slots_of}
use Rattle.register_alloc.specs.Assignment.{Assignment, place_of, words_at}
use Rattle.rv32_items.specs.declared.Item.{Item}
use Rattle.rv32_items.specs.declared.Item.TheVariants.{Plain}
use Rattle.rv32_items.specs.Course.{Layout}
use Rattle.rv32_select.specs.declared.source.Continuation.{Continuation}
use Rattle.rv32_select.specs.Emit.{plain, held, hold, aside, back, put_code, get_code, move_to}
use Rattle.rv32_select.specs.IsSelected.{heap_end, source, Then}
use Rattle.limits.specs.Limits.{heap_start}
use Rattle.rv32_select.proofs.Courses.{Stands, front, back as behind, Goes}
use Rattle.rv32_select.proofs.Straight.{Data, with_reg, with_stack, Good, good_reg, good_stack, Does, does_on, does_imm, does_op, does_load_stack, does_store_stack, at}
use Rattle.rv32_select.proofs.FrameViews.{spots, InFrame, Outside, Kept, kept_reg, seen_reg, copied, stores}
use Rattle.rv32_select.proofs.OperandsRead.{read, IsPlace, holds, held_not_seven, read_same, put_here, put_there}
use Rattle.rv32_select.proofs.Relation.{bases, HoldsCells, HoldsWorld, Ran, ran_on, wrote, took, Does', does_after, Given, Needed}
use Rattle.rv32_select.proofs.PlaceFacts.{IsOwn, ProcedureFine, Setting}
use Rattle.rv32_select.proofs.BlockFacts.{room, Opened, Simulates, Changed, own_place, stood_bound, still_scoped}
use Rattle.rv32_select.proofs.OneBound.{Cut, cut, ready_at, plain_ran, operand_read}
use Rattle.rv32_select.proofs.WordStatements.{stood_same, number_there}
use Rattle.rv32_select.proofs.TakeStatement.{scope_owned}
use Rattle.rv32_select.proofs.MachineCalls.{four, at_call, brought_back, aside_done, back_done, aside_other, all_back, word_back, write_call, read_call_ends, read_call_takes}
use Rattle.rv32_machine.proofs.Registers.{set_there, set_here}
use Rattle.seq.proofs.Counted.{among_left, among_right}
use Rattle.rv32_select.proofs.Plain.{plain_append}

-- instructions before an ECALL, it, and those behind it
record Called' (items : List Item) (p : ℕ) (before after : List Instr) : Type 0 where
  pub first : Stands items p (plain before)
  pub call : slice_get items (p + length (plain before)) ≡ Some (Plain Ecall)
  pub second : Stands items (suc (p + length (plain before))) (plain after)

called_parts : (items : List Item) (p : ℕ) (before after whole : List Instr) → before
    ++ (Ecall ∷ after) ≡ whole → Stands items p (plain whole) → Called' items p before after
called_parts items p before after whole e h =
    let both : Stands items p (plain before ++ (Plain Ecall ∷ plain after))
    = subst (λ x. Stands items p x) (ap plain (sym e) ∙ plain_append before (Ecall ∷ after)) h
    in
    let rest = behind items p (plain before) (Plain Ecall ∷ plain after) both in
    record {
      first = front items p (plain before) (Plain Ecall ∷ plain after) both;
      call
          = rest.0;
      second = rest.1;
    }

module _ (l : Program) (a : Assignment) (cells stack : ℕ) (lay : Layout) (items : List Item)
    (begins : List ℕ) (s : Setting l a cells stack lay items begins) (calls_n : Calls) (n : ℕ)
    (f : ℕ) (q : Procedure) (pf : ProcedureFine l a f q) (framed : Bool) (j m : ℕ) (outer : List ℕ)
    (d0 : Data) (u : ℕ) where
  -- the heap's end is a word
  end_small : (d : Data) (w : World) → HoldsWorld l a cells stack lay d w
      → heap_start + 4 * l.width * cells < 2 ^ 32
  end_small d w h =
      let words = h.heap_words in
      let below = h.good.laid.heap_below in
      let same : 4 * l.width * cells ≡ 4 * (l.width * cells) = omega arith in
      omega arith

  pub put_simulated : (Rest : List Item → Type 0) (o : Operand) (c : Code) (to : List Spot)
      (way : Continuation) (Must : ℕ → Word → Type 0) (k : ℕ) (block : List Item) (p : ℕ)
      (scope later : List ℕ) (env : Env) (top : ℕ) (under : Option ℕ) (d : Data) (w : World)
      → Opened l a cells stack lay items begins f q framed pf.slots j m outer d0 u n true
      (Then (plain (put_code (heap_end l cells) (source l a o))) Rest block) (put o c) to way
      Must k block p scope later env top under d w
      → ((w' : World) (rest : List Item) (p' : ℕ) (d' : Data)
      → Opened l a cells stack lay items begins f q framed pf.slots j m outer d0 u n true
      (Rest rest) c to way Must k rest p' scope later env top under d' w'
      → Simulates l a cells stack lay items begins f q framed pf.slots j m outer d0 u n calls_n c to
      way Must p' env top under d' w')
      → Simulates l a cells stack lay items begins f q framed pf.slots j m outer d0 u n calls_n
      (put o c) to way Must p env top under d w
  unfolding code
  put_simulated Rest o c to way Must k block p scope later env top under d w b more
      = go (number_in l (words_at a) env o) refl
    where
      go : (r : Option ℕ) → number_in l (words_at a) env o ≡ r
          → Does' lay items begins l.width cells
          (Given l a cells stack lay items framed f j pf.slots d0 m outer to way Must)
          (at (bases stack) lay items p d) (m ∷ outer) w
          (need r w
          (λ v. code l (words_at a) (room l a cells stack lay items begins) calls_n env top under c
          (written v w)))
      go None e = tt
      go (Some v) e =
          let src = source l a o in
          let r = operand_read l a cells stack lay items begins s calls_n n f q pf true j m outer d0
          u (put o c) scope env Must d w o (number v) b.stood b.scoped b.owned
          (λ y h. among_left y (used_by o) (uses c) h) b.fine.0
          (number_there (operand l (words_at a) env o) v e) in
          let h = b.stood.world in
          let g = h.good in
          let sp = b.stood.frame.sp in
          let in_stack = b.stood.frame.room in
          let top_small = g.top in
          let link = get_or d.stack j 0 in
          let place : plus (d.regs 2) 0 ≡ (bases stack).stack + 4 * j = omega arith in
          let L = does_load_stack lay.code (bases stack) 1 2 (pos 0) j d g place (omega arith) in
          let d1 = with_reg d 1 link in
          let frame1 : InFrame lay.code (bases stack) j pf.slots d1
          = record { sp = sp; room = in_stack } in
          let H = holds lay.code (bases stack) j pf.slots 5 src d1 L.good frame1 (omega arith)
          (omega arith) r.0 in
          let e1 = with_reg (with_reg d1 7 H.seven) 5 H.own in
          let read_is : read lay.code (bases stack) j pf.slots d1 src ≡ v
          = read_same lay.code (bases stack) j pf.slots src d d1 r.0 (seen_one d link) ∙ r.1 in
          let S1 = does_store_stack lay.code (bases stack) (held 5 src) 2 (pos 0) j v e1 H.does.good
          (held_not_seven lay.code (bases stack) j pf.slots 5 src r.0 (omega arith)) place
          (omega arith) (H.value_is' ∙ read_is) in
          let e2 = with_stack e1 (set_at d.stack j v) in
          let A = aside_done lay.code (bases stack) 1 64 e2 S1.good (omega arith) (omega arith) in
          let e3 = at_call 1 64 e2 in
          let before = Load Lw 1 2 (pos 0) ∷
          (hold 5 src ++ (Store Sw (held 5 src) 2 (pos 0) ∷ (aside ++ four 1 64))) in
          let after = back (heap_end l cells) ++ Store Sw 1 2 (pos 0) ∷ [] in
          let whole : before ++ (Ecall ∷ after) ≡ put_code (heap_end l cells) src
          = ap (λ x. Load Lw 1 2 (pos 0) ∷ x)
          (append_assoc (hold 5 src) (Store Sw (held 5 src) 2 (pos 0) ∷ (aside ++ four 1 64))
          (Ecall ∷ after)) in
          let parts = cut items p (plain (put_code (heap_end l cells) src)) b.emits.0 block
          b.emits.1 b.stands in
          let call = called_parts items p before after (put_code (heap_end l cells) src) whole
          parts.first in
          let does1 : Does lay.code (bases stack) before d e3
          = does_on lay.code (bases stack) L
          (does_on lay.code (bases stack) H.does (does_on lay.code (bases stack) S1 A)) in
          let ran1 = plain_ran l a cells stack lay items begins before p d e3 (m ∷ outer) w g does1
          call.first in
          let pe = p + length (plain before) in
          let longer = length-set d.stack j v in
          let w' = written v w in
          let here : get_or (set_at d.stack j v) j 0 ≡ v
          = get_or-set_same d.stack j v 0 (omega arith) in
          let step = write_call (bases stack) lay items pe j e3 w.input (m ∷ outer) call.call A.good
          (omega arith) refl refl sp refl in
          let e4 = with_reg e3 10 1 in
          let step' = subst
          (λ x. Goes lay items 1 w.input (at (bases stack) lay items pe e3) (m ∷ outer)
          (x % 256 ∷ []) [] w.input (at (bases stack) lay items (suc pe) e4) (m ∷ outer)) here
          step in
          let ran2 = wrote lay items begins v w step' in
          let good4 = good_reg lay.code (bases stack) e3 10 1 A.good (omega arith) in
          let end_lt = end_small d w h in
          let twelve : d.regs 12 < 2 ^ 32 = g.small 12 (omega arith) in
          let B = back_done lay.code (bases stack) (heap_end l cells) e4 good4 end_lt twelve in
          let e5 = brought_back (heap_end l cells) e4 in
          let S2 = does_store_stack lay.code (bases stack) 1 2 (pos 0) j link e5 B.good
          (omega arith) place (omega arith) refl in
          let e6 = with_stack e5 (set_at (set_at d.stack j v) j link) in
          let ran3 = plain_ran l a cells stack lay items begins after (suc pe) e4 e6 (m ∷ outer) w'
          good4 (does_on lay.code (bases stack) B S2) call.second in
          let regs_back = all_back (heap_end l cells) e4 d refl refl refl refl
          (λ r lo n10 n11 n12 n17. set_there e3.regs 10 1 r n10 ∙ aside_other 1 64 r e2 lo n10
          n11 n12 n17 ∙ set_there (set_reg d1.regs 7 H.seven) 5 H.own r (omega arith) ∙
          set_there d1.regs 7 H.seven r (omega arith) ∙ set_there d.regs 1 link r (omega arith))
          in
          let words = λ (t : ℕ). word_back d.stack j v t (omega arith) in
          let longer2 = length-set (set_at d.stack j v) j link in
          let same_length : length e6.stack ≡ length d.stack = longer2 ∙ longer in
          let world : HoldsWorld l a cells stack lay e6 w' = record {
            good = S2.good;
            cells_are = h.cells_are;
            next = h.next;
            end = refl;
            room = h.room;
            globals = h.globals;
            input = h.input;
            heap_words = h.heap_words;
            stack_words = ap (λ x. 4 * x) same_length ∙ h.stack_words;
          } in
          let stood = stood_same l a cells stack lay true f j pf.slots
          (slots_of (place_of a) (variables q)) d0 (lay.address m) (Needed (put o c) env Must)
          (Needed c env Must) d e6 w w' pf.enough b.stood world (words j ∙ b.stood.home) refl
          same_length words (seen_back e6 regs_back words) needs in
          let plain_pos : suc pe + length (plain after) ≡ p + length
          (plain (put_code (heap_end l cells) src))
          = count_calls p before after (put_code (heap_end l cells) src) whole in
          let ran = ran_on lay items begins ran1
          (ran_on lay items begins ran2
          (subst (λ y. Ran lay items begins (at (bases stack) lay items (suc pe) e4) (m ∷ outer)
          w' (at (bases stack) lay items y e6) (m ∷ outer) w') plain_pos ran3)) in
          does_after lay items begins l.width cells
          (Given l a cells stack lay items framed f j pf.slots d0 m outer to way Must)
          (code l (words_at a) (room l a cells stack lay items begins) calls_n env top under c
          w') ran
          (more w' b.emits.0 (p + length (plain (put_code (heap_end l cells) src))) e6 (record {
            emits = b.emits.2;
            stands = parts.more;
            ready = ready_at l a cells stack lay items begins way (p + length block)
                (p + length (plain (put_code (heap_end l cells) src)) + length b.emits.0) parts.end
                b.ready;
            above = b.above;
            fine = b.fine.1;
            scoped = b.scoped;
            owned = b.owned;
            must = b.must;
            clear = b.clear;
            to_own = b.to_own;
            to_differ = b.to_differ;
            in_registers = b.in_registers;
            stood = stood;
            base = b.base;
            left = b.left;
            top_is = b.top_is;
            under_is = b.under_is;
          }))
        where
          seen_one : (d : Data) (x : ℕ) (t : Spot) → IsPlace lay.code (bases stack) j pf.slots t
              → spots lay.code (bases stack) j pf.slots (with_reg d 1 x) t ≡ spots lay.code
              (bases stack) j pf.slots d t
          seen_one d x (Reg r) o = let lo = o.0.0 in set_there d.regs 1 x r (omega arith)
          seen_one d x (Slot i) o = refl
          seen_one d x Scratch o = absurd (o.1 refl)

          seen_back : (e : Data) → ((r : ℕ) → 8 ≤ r → e.regs r ≡ d.regs r)
              → ((t : ℕ) → get_or e.stack t 0 ≡ get_or d.stack t 0) → (y : Spot)
              → IsPlace lay.code (bases stack) j pf.slots y
              → spots lay.code (bases stack) j pf.slots e y ≡ spots lay.code (bases stack) j
              pf.slots d y
          seen_back e regs words (Reg r) o = regs r o.0.0
          seen_back e regs words (Slot i) o = words (j + (1 + i))
          seen_back e regs words Scratch o = absurd (o.1 refl)

          needs : (y : ℕ) (v : Word) → Needed c env Must y v → Needed (put o c) env Must y v
              × IsOwn l a f (slots_of (place_of a) (variables q)) (place_of a y)
          needs y v (inl h) =
              (inl (among_right y (used_by o) (uses c) h.0, h.1), b.owned y (b.scoped y v h.1))
          needs y v (inr h) = (inr h, b.owned y (b.must y v h).0)

          count_calls : (p : ℕ) (before after whole : List Instr) → before
              ++ (Ecall ∷ after) ≡ whole → suc (p + length (plain before)) + length (plain after) ≡
              p + length (plain whole)
          count_calls p before after whole e = counted
              (ap (λ x. length (plain x)) (sym e) ∙ ap length (plain_append before (Ecall ∷ after))
              ∙ length-append (plain before) (Plain Ecall ∷ plain after))
            where
              counted : length (plain whole) ≡ length (plain before) + suc (length (plain after))
                  → suc (p + length (plain before)) + length (plain after) ≡ p + length
                  (plain whole)
              counted e = omega arith

  -- ---- a byte that is got

  -- what follows the call: the byte or all ones is at the place, and everything else as before
  record Finished (x v : ℕ) (d e : Data) (is : List Instr) : Type 0 where
    pub to' : Data
    pub does : Does lay.code (bases stack) is e to'
    pub here : spots lay.code (bases stack) j pf.slots to' (place_of a x) ≡ v
    pub others : (t : Spot) → IsPlace lay.code (bases stack) j pf.slots t → t ≢ place_of a x
        → spots lay.code (bases stack) j pf.slots to' t ≡ spots lay.code (bases stack) j pf.slots d
        t
    pub sp : to'.regs 2 ≡ d.regs 2
    pub next : to'.regs 3 ≡ d.regs 3
    pub end : to'.regs 4 ≡ heap_end l cells
    pub heap : to'.heap ≡ d.heap
    pub words : length to'.stack ≡ length d.stack
    pub outside : (t : ℕ) → Outside lay.code (bases stack) j pf.slots t
        → get_or to'.stack t 0 ≡ get_or d.stack t 0

  -- the word in x1 goes to a place
  record Moved (t : Spot) (d : Data) : Type 0 where
    pub to' : Data
    pub does : Does lay.code (bases stack) (move_to t (Reg 1)) d to'
    pub here : spots lay.code (bases stack) j pf.slots to' t ≡ d.regs 1
    pub others : (y : Spot) → IsPlace lay.code (bases stack) j pf.slots y → y ≢ t
        → spots lay.code (bases stack) j pf.slots to' y ≡ spots lay.code (bases stack) j pf.slots d
        y
    pub keeps : Kept lay.code (bases stack) j pf.slots d to'

  moved_to : (t : Spot) (d : Data) → Good lay.code (bases stack) d
      → InFrame lay.code (bases stack) j pf.slots d → IsPlace lay.code (bases stack) j pf.slots t
      → Moved t d
  moved_to (Reg r) d g fr o =
      let lo = o.0.0 in
      record {
        to' = with_reg d r (d.regs 1);
        does = copied lay.code (bases stack) j pf.slots r 1 d g (omega arith) (omega arith);
        here = set_here d.regs r (d.regs 1);
        others = λ y p ne. seen_reg lay.code (bases stack) j pf.slots d r (d.regs 1) lo y p.0 ∙
            put_there (Reg r) y (d.regs 1) (spots lay.code (bases stack) j pf.slots d) ne;
        keeps = kept_reg lay.code (bases stack) j pf.slots d r (d.regs 1) (omega arith);
      }
  moved_to (Slot i) d g fr o =
      let z = stores lay.code (bases stack) j pf.slots i 1 d g fr o.0 (omega arith) in
      record {
        to' = z.to;
        does = z.does;
        here = z.spots_are (Slot i) o.0 ∙ put_here (Slot i) (d.regs 1)
            (spots lay.code (bases stack) j pf.slots d);
        others = λ y p ne. z.spots_are y p.0 ∙ put_there (Slot i) y (d.regs 1)
            (spots lay.code (bases stack) j pf.slots d) ne;
        keeps = z.keeps;
      }
  moved_to Scratch d g fr o = absurd (o.1 refl)

  finished : (x byte ten v : ℕ) (d e : Data) (w : World) → HoldsWorld l a cells stack lay d w
      → InFrame lay.code (bases stack) j pf.slots d
      → IsPlace lay.code (bases stack) j pf.slots (place_of a x)
      → Good lay.code (bases stack) e → e.regs 1 ≡ get_or d.stack j 0 → e.regs 2 ≡ d.regs 2
      → e.regs 3 ≡ d.regs 3 → e.regs 5 ≡ d.regs 10 → e.regs 6 ≡ d.regs 11 → e.regs 7 ≡ d.regs 12
      → e.regs 4 ≡ d.regs 17 → e.regs 10 ≡ ten
      → ((r : ℕ) → 8 ≤ r → r ≢ 10 → r ≢ 11 → r ≢ 12 → r ≢ 17 → e.regs r ≡ d.regs r)
      → e.heap ≡ d.heap → length e.stack ≡ length d.stack
      → ((t : ℕ) → t ≢ j → get_or e.stack t 0 ≡ get_or d.stack t 0)
      → get_or e.stack j 0 ≡ byte → plus (plus ten 4294967295) byte ≡ v → v < 2 ^ 32
      → Finished x v d e
      (Load Lw 17 2 (pos 0) ∷ Store Sw 1 2 (pos 0) ∷ OpImm Addi 10 10 (negsuc 0) ∷ Op op.Add 1
      10 17 ∷ (back (heap_end l cells) ++ move_to (place_of a x) (Reg 1)))
  finished x byte ten v d e w h fr o g one two three five six seven four' ten_is others heap len
      words byte_is sum small =
      let sp = fr.sp in
      let in_stack = fr.room in
      let top_small = h.good.top in
      let place : plus (e.regs 2) 0 ≡ (bases stack).stack + 4 * j = omega arith in
      let link = get_or d.stack j 0 in
      let L = does_load_stack lay.code (bases stack) 17 2 (pos 0) j e g place (omega arith) in
      let f1 = with_reg e 17 (get_or e.stack j 0) in
      let S = does_store_stack lay.code (bases stack) 1 2 (pos 0) j link f1 L.good (omega arith)
      place (omega arith) one in
      let f2 = with_stack f1 (set_at e.stack j link) in
      let less : plus (e.regs 10) 4294967295 ≡ plus ten 4294967295
      = ap (λ y. plus y 4294967295) ten_is in
      let I = does_imm lay.code (bases stack) Addi 10 10 (negsuc 0) (plus ten 4294967295) f2 S.good
      less (omega arith) in
      let f3 = with_reg f2 10 (plus ten 4294967295) in
      let A = does_op lay.code (bases stack) op.Add 1 10 17 v f3 I.good
      (ap (plus (plus ten 4294967295)) byte_is ∙ sum) small in
      let f4 = with_reg f3 1 v in
      let end_lt = end_small d w h in
      let twelve : d.regs 12 < 2 ^ 32 = h.good.small 12 (omega arith) in
      let seven_small : f4.regs 7 < 2 ^ 32 = subst (λ y. y < 2 ^ 32) (sym seven) twelve in
      let B = back_done lay.code (bases stack) (heap_end l cells) f4 A.good end_lt seven_small in
      let f5 = brought_back (heap_end l cells) f4 in
      let longer = length-set e.stack j link in
      let frame5 : InFrame lay.code (bases stack) j pf.slots f5
      = record { sp = two ∙ sp; room = omega arith } in
      let M = moved_to (place_of a x) f5 B.good frame5 o in
      let regs_back = all_back (heap_end l cells) f4 d five six seven four'
      (λ r lo n10 n11 n12 n17. set_there f3.regs 1 v r (omega arith) ∙ set_there f2.regs 10
      (plus ten 4294967295) r n10 ∙ set_there e.regs 17 (get_or e.stack j 0) r n17 ∙ others r lo
      n10 n11 n12 n17) in
      record {
        to' = M.to';
        does = does_on lay.code (bases stack) L
            (does_on lay.code (bases stack) S
            (does_on lay.code (bases stack) I
            (does_on lay.code (bases stack) A (does_on lay.code (bases stack) B M.does))));
        here = M.here;
        others = λ t p ne. M.others t p ne ∙ seen_five e t p f5.regs f5.stack regs_back
            (λ y. word_is y (nat_eq y j) refl);
        sp = M.keeps.frame ∙ two;
        next = M.keeps.next ∙ three;
        end = M.keeps.end;
        heap = M.keeps.heap ∙ heap;
        words = M.keeps.words ∙ longer ∙ len;
        outside = λ t out. M.keeps.outside t out ∙ word_is t (nat_eq t j) refl;
      }
    where
      word_is : (t : ℕ) (b : Bool) → nat_eq t j ≡ b
          → get_or (set_at e.stack j (get_or d.stack j 0)) t 0 ≡ get_or d.stack t 0
      word_is t true z =
          let is : t ≡ j = grind (arith, nat_tests) in
          let room = fr.room in
          let l1 = len in
          ap (λ y. get_or (set_at e.stack j (get_or d.stack j 0)) y 0) is ∙ get_or-set_same e.stack
          j (get_or d.stack j 0) 0 (omega arith) ∙ ap (λ y. get_or d.stack y 0) (sym is)
      word_is t false z =
          let ne : t ≢ j = grind (arith, nat_tests) in
          get_or-set_other e.stack j t (get_or d.stack j 0) 0 ne ∙ words t ne

      seen_five : (e : Data) (t : Spot) → IsPlace lay.code (bases stack) j pf.slots t
          → (regs' : ℕ → ℕ) (stack' : List ℕ) → ((r : ℕ) → 8 ≤ r → regs' r ≡ d.regs r)
          → ((y : ℕ) → get_or stack' y 0 ≡ get_or d.stack y 0)
          → spots lay.code (bases stack) j pf.slots
          (record { regs = regs'; heap = e.heap; stack = stack' }) t ≡ spots lay.code (bases stack)
          j pf.slots d t
      seen_five e (Reg r) p regs' stack' regs words = regs r p.0.0
      seen_five e (Slot i) p regs' stack' regs words = words (j + (1 + i))
      seen_five e Scratch p regs' stack' regs words = absurd (p.1 refl)

  pub get_simulated : (Rest : List Item → Type 0) (x : ℕ) (c : Code) (to : List Spot)
      (way : Continuation) (Must : ℕ → Word → Type 0) (k : ℕ) (block : List Item) (p : ℕ)
      (scope later : List ℕ) (env : Env) (top : ℕ) (under : Option ℕ) (d : Data) (w : World)
      → Opened l a cells stack lay items begins f q framed pf.slots j m outer d0 u n true
      (Then (plain (get_code (heap_end l cells) (place_of a x))) Rest block) (get x c) to way
      Must k block p scope later env top under d w
      → ((v : Word) (w' : World) (rest : List Item) (p' : ℕ) (d' : Data)
      → Opened l a cells stack lay items begins f q framed pf.slots j m outer d0 u n true
      (Rest rest) c to way Must k rest p' (x ∷ scope) later (with_var x v env) top under d' w'
      → Simulates l a cells stack lay items begins f q framed pf.slots j m outer d0 u n calls_n c to
      way Must p' (with_var x v env) top under d' w')
      → Simulates l a cells stack lay items begins f q framed pf.slots j m outer d0 u n calls_n
      (get x c) to way Must p env top under d w
  unfolding code
  get_simulated Rest x c to way Must k block p scope later env top under d w b more
      = by_input w.input refl
    where
      h : HoldsWorld l a cells stack lay d w
      h = b.stood.world

      before : List Instr
      before = Load Lw 1 2 (pos 0) ∷ Store Sw 0 2 (pos 0) ∷ (aside ++ four 0 63)

      own_x : IsPlace lay.code (bases stack) j pf.slots (place_of a x)
      own_x = own_place l a lay stack f j pf.slots (slots_of (place_of a) (variables q))
          (place_of a x) pf.enough b.fine.0.1.0

      link : ℕ
      link = get_or d.stack j 0

      -- the data at the call, and that they are reached
      waiting : Data
      waiting = at_call 0 63 (with_stack (with_reg d 1 (get_or d.stack j 0)) (set_at d.stack j 0))

      ready_to_call : Does lay.code (bases stack)
          (Load Lw 1 2 (pos 0) ∷ Store Sw 0 2 (pos 0) ∷ (aside ++ four 0 63)) d
          (at_call 0 63 (with_stack (with_reg d 1 (get_or d.stack j 0)) (set_at d.stack j 0)))
      ready_to_call =
          let sp = b.stood.frame.sp in
          let in_stack = b.stood.frame.room in
          let top_small = b.stood.world.good.top in
          let place : plus (d.regs 2) 0 ≡ (bases stack).stack + 4 * j = omega arith in
          let L = does_load_stack lay.code (bases stack) 1 2 (pos 0) j d b.stood.world.good place
          (omega arith) in
          let d1 = with_reg d 1 (get_or d.stack j 0) in
          let S = does_store_stack lay.code (bases stack) 0 2 (pos 0) j 0 d1 L.good (omega arith)
          place (omega arith) refl in
          let A = aside_done lay.code (bases stack) 0 63 (with_stack d1 (set_at d.stack j 0)) S.good
          (omega arith) (omega arith) in
          does_on lay.code (bases stack) L (does_on lay.code (bases stack) S A)

      code_is : List Instr
      code_is = get_code (heap_end l cells) (place_of a x)

      parts : Cut items p (plain (get_code (heap_end l cells) (place_of a x))) b.emits.0 block
      parts = cut items p (plain (get_code (heap_end l cells) (place_of a x))) b.emits.0 block
          b.emits.1 b.stands

      call : Called' items p (Load Lw 1 2 (pos 0) ∷ Store Sw 0 2 (pos 0) ∷ (aside ++ four 0 63))
          (Load Lw 17 2 (pos 0) ∷ Store Sw 1 2 (pos 0) ∷ OpImm Addi 10 10 (negsuc 0) ∷ Op op.Add 1
          10 17 ∷ (back (heap_end l cells) ++ move_to (place_of a x) (Reg 1)))
      call = called_parts items p
          (Load Lw 1 2 (pos 0) ∷ Store Sw 0 2 (pos 0) ∷ (aside ++ four 0 63))
          (Load Lw 17 2 (pos 0) ∷ Store Sw 1 2 (pos 0) ∷ OpImm Addi 10 10 (negsuc 0) ∷ Op op.Add 1
          10 17 ∷ (back (heap_end l cells) ++ move_to (place_of a x) (Reg 1)))
          (get_code (heap_end l cells) (place_of a x)) refl
          (cut items p (plain (get_code (heap_end l cells) (place_of a x))) b.emits.0 block
          b.emits.1 b.stands).first

      count_is : (before after whole : List Instr) → before ++ (Ecall ∷ after) ≡ whole
          → suc (p + length (plain before)) + length (plain after) ≡ p + length (plain whole)
      count_is before after whole e = counted
          (ap (λ x. length (plain x)) (sym e) ∙ ap length (plain_append before (Ecall ∷ after)) ∙
          length-append (plain before) (Plain Ecall ∷ plain after))
        where
          counted : length (plain whole) ≡ length (plain before) + suc (length (plain after))
              → suc (p + length (plain before)) + length (plain after) ≡ p + length (plain whole)
          counted e = omega arith

      -- from the call's answer on
      answered : (i : List ℕ) (byte ten v : ℕ) (e : Data) → w.input ≡ i
          → IsBytes (byte_taken i w).input → v ≡ next_byte i → v < 2 ^ 32
          → Goes lay items 1 i
          (at (bases stack) lay items
          (p + length
          (plain (Load Lw 1 2 (pos 0) ∷ Store Sw 0 2 (pos 0) ∷ (aside ++ four 0 63))))
          (at_call 0 63 (with_stack (with_reg d 1 (get_or d.stack j 0)) (set_at d.stack j 0))))
          (m ∷ outer) [] [] (drop 1 i)
          (at (bases stack) lay items
          (suc (p + length
          (plain (Load Lw 1 2 (pos 0) ∷ Store Sw 0 2 (pos 0) ∷ (aside ++ four 0 63))))) e)
          (m ∷ outer)
          → Finished x v d e
          (Load Lw 17 2 (pos 0) ∷ Store Sw 1 2 (pos 0) ∷ OpImm Addi 10 10 (negsuc 0) ∷ Op op.Add
          1 10 17 ∷ (back (heap_end l cells) ++ move_to (place_of a x) (Reg 1)))
          → Good lay.code (bases stack) e
          → (byte_taken i w).cells ≡ w.cells → (byte_taken i w).left ≡ w.left
          → Does' lay items begins l.width cells
          (Given l a cells stack lay items framed f j pf.slots d0 m outer to way Must)
          (at (bases stack) lay items p d) (m ∷ outer) w
          (code l (words_at a) (room l a cells stack lay items begins) calls_n
          (with_var x (number (next_byte i)) env) top under c (byte_taken i w))
      answered i byte ten v e is bytes value_is' small step z good cells_same left_same =
          let h = b.stood.world in
          let before = Load Lw 1 2 (pos 0) ∷ Store Sw 0 2 (pos 0) ∷ (aside ++ four 0 63) in
          let after = Load Lw 17 2 (pos 0) ∷ Store Sw 1 2 (pos 0) ∷ OpImm Addi 10 10 (negsuc 0) ∷ Op
          op.Add 1 10 17 ∷ (back (heap_end l cells) ++ move_to (place_of a x) (Reg 1)) in
          let pe = p + length (plain before) in
          let w' = byte_taken i w in
          let env' = with_var x (number (next_byte i)) env in
          let ran1 = plain_ran l a cells stack lay items begins before p d
          (at_call 0 63 (with_stack (with_reg d 1 (get_or d.stack j 0)) (set_at d.stack j 0)))
          (m ∷ outer) w h.good ready_to_call call.first in
          let ran2 = took lay items begins i w is step in
          let ran3 = plain_ran l a cells stack lay items begins after (suc pe) e z.to' (m ∷ outer)
          w' good z.does call.second in
          let end_is = count_is before after (get_code (heap_end l cells) (place_of a x)) refl in
          let ran = ran_on lay items begins ran1
          (ran_on lay items begins ran2
          (subst (λ y. Ran lay items begins (at (bases stack) lay items (suc pe) e) (m ∷ outer)
          w' (at (bases stack) lay items y z.to') (m ∷ outer) w') end_is ran3)) in
          let count = ap length cells_same in
          let world : HoldsWorld l a cells stack lay z.to' w' = record {
            good = z.does.good;
            cells_are = subst (λ y. HoldsCells l.width y w'.cells) (sym z.heap)
                (subst (λ y. HoldsCells l.width d.heap y) (sym cells_same) h.cells_are);
            next = z.next ∙ h.next ∙ ap (λ y. heap_start + 4 * l.width * y) (sym count);
            end = z.end;
            room = let r = h.room in omega arith;
            globals = let r = h.globals in omega arith;
            input = bytes;
            heap_words = ap length z.heap ∙ h.heap_words;
            stack_words = ap (λ y. 4 * y) z.words ∙ h.stack_words;
          } in
          let ch : Changed l stack j pf.slots lay (place_of a x ∷ []) (number (next_byte i) ∷ []) d
          z.to' = record {
            held = (z.here ∙ value_is', tt);
            others = λ t o ne. z.others t o ne.0;
            sp = z.sp;
            words = z.words;
            outside = z.outside;
          } in
          let stood = stood_bound l a cells stack lay true f j pf.slots
          (slots_of (place_of a) (variables q)) d0 (lay.address m) (get x c) c (x ∷ [])
          (number (next_byte i) ∷ []) scope later env (with_var x (number (next_byte i)) env)
          Must d z.to' w w' pf.enough b.stood world ch
          (z.outside j (inl (omega arith)) ∙ b.stood.home) refl b.fine.0 (λ y z. z) b.scoped
          b.must b.owned in
          does_after lay items begins l.width cells
          (Given l a cells stack lay items framed f j pf.slots d0 m outer to way Must)
          (code l (words_at a) (room l a cells stack lay items begins) calls_n
          (with_var x (number (next_byte i)) env) top under c w') ran
          (more (number (next_byte i)) w' b.emits.0
          (p + length (plain (get_code (heap_end l cells) (place_of a x)))) z.to' (record {
            emits = b.emits.2;
            stands = parts.more;
            ready = ready_at l a cells stack lay items begins way (p + length block)
                (p + length (plain (get_code (heap_end l cells) (place_of a x))) + length b.emits.0)
                parts.end b.ready;
            above = b.above;
            fine = b.fine.1;
            scoped = still_scoped (x ∷ []) (number (next_byte i) ∷ []) scope env
                (with_var x (number (next_byte i)) env) refl b.scoped;
            owned = scope_owned l a f (slots_of (place_of a) (variables q)) (x ∷ []) scope
                b.fine.0.1 b.owned;
            must = λ y z e. let both = b.must y z e
                in (among_right y (x ∷ []) scope both.0, both.1);
            clear = b.clear;
            to_own = b.to_own;
            to_differ = b.to_differ;
            in_registers = b.in_registers;
            stood = stood;
            base = b.base;
            left = let le = b.left in omega arith;
            top_is = b.top_is;
            under_is = b.under_is;
          }))

      by_input : (i : List ℕ) → w.input ≡ i → Does' lay items begins l.width cells
          (Given l a cells stack lay items framed f j pf.slots d0 m outer to way Must)
          (at (bases stack) lay items p d) (m ∷ outer) w
          (code l (words_at a) (room l a cells stack lay items begins) calls_n
          (with_var x (number (next_byte i)) env) top under c (byte_taken i w))
      by_input [] e =
          let h = b.stood.world in
          let sp = b.stood.frame.sp in
          let in_stack = b.stood.frame.room in
          let e2 = with_stack (with_reg d 1 (get_or d.stack j 0)) (set_at d.stack j 0) in
          let e3 = at_call 0 63 e2 in
          let e4 = with_reg e3 10 0 in
          let pe = p + length
          (plain (Load Lw 1 2 (pos 0) ∷ Store Sw 0 2 (pos 0) ∷ (aside ++ four 0 63))) in
          let longer = length-set d.stack j 0 in
          let step = read_call_ends (bases stack) lay items pe j e3 (m ∷ outer) call.call
          ready_to_call.good (omega arith) refl refl sp refl in
          let good4 = good_reg lay.code (bases stack) e3 10 0 ready_to_call.good (omega arith) in
          let none = get_or-set_same d.stack j 0 0 (omega arith) in
          let z = finished x 0 0 4294967295 d e4 w h b.stood.frame own_x good4 refl refl refl refl
          refl refl refl refl
          (λ r lo n10 n11 n12 n17. set_there e3.regs 10 0 r n10 ∙ aside_other 0 63 r e2 lo n10 n11
          n12 n17 ∙ set_there d.regs 1 (get_or d.stack j 0) r (omega arith)) refl longer
          (λ t ne. get_or-set_other d.stack j t 0 0 ne) none refl (omega arith) in
          answered [] 0 0 4294967295 e4 e h.input refl (omega arith) step z good4 refl refl
      by_input (y ∷ ys) e =
          let h = b.stood.world in
          let sp = b.stood.frame.sp in
          let in_stack = b.stood.frame.room in
          let bytes = subst IsBytes e h.input in
          let small = bytes.0 in
          let e2 = with_stack (with_reg d 1 (get_or d.stack j 0)) (set_at d.stack j 0) in
          let e3 = at_call 0 63 e2 in
          let e4 = with_stack (with_reg e3 10 1) (set_at (set_at d.stack j 0) j y) in
          let pe = p + length
          (plain (Load Lw 1 2 (pos 0) ∷ Store Sw 0 2 (pos 0) ∷ (aside ++ four 0 63))) in
          let longer = length-set d.stack j 0 in
          let longer2 = length-set (set_at d.stack j 0) j y in
          let none = get_or-set_same d.stack j 0 0 (omega arith) in
          let step = read_call_takes (bases stack) lay items pe j y e3 ys (m ∷ outer) call.call
          ready_to_call.good (omega arith) small none refl refl sp refl in
          let good4 = good_stack lay.code (bases stack) (with_reg e3 10 1) j y
          (good_reg lay.code (bases stack) e3 10 1 ready_to_call.good (omega arith))
          (omega arith) in
          let is_byte = get_or-set_same (set_at d.stack j 0) j y 0 (omega arith) in
          let sum : plus (plus 1 4294967295) y ≡ y = omega arith in
          let z = finished x y 1 y d e4 w h b.stood.frame own_x good4 refl refl refl refl refl refl
          refl refl
          (λ r lo n10 n11 n12 n17. set_there e3.regs 10 1 r n10 ∙ aside_other 0 63 r e2 lo n10 n11
          n12 n17 ∙ set_there d.regs 1 (get_or d.stack j 0) r (omega arith)) refl
          (longer2 ∙ longer)
          (λ t ne. get_or-set_other (set_at d.stack j 0) j t y 0 ne ∙ get_or-set_other d.stack j t 0
          0 ne) is_byte sum (omega arith) in
          answered (y ∷ ys) y 1 y e4 e bytes.1 refl (omega arith) step z good4 refl refl
