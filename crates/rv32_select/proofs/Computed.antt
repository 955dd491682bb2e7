-- Code that computes a word from operands: a word of a cell, an operation; and code that stores a
-- word in a cell.
use Rattle.std.proofs.Common.{◌≡◌, ◌≢◌, ℕ, ◌+◌, ◌-◌, ◌*◌, ◌%◌, ◌^◌, ◌<◌, ◌≤◌, List, [], ◌∷◌, ◌++◌, length, get_or, set, Bool, true, false, ◌⊎◌, inl, inr, refl, ap, ◌∙◌, subst, arith, append_assoc}
use Rattle.std.specs.Prelude.{if◌then◌else◌, nat_lt, pos}
use Rattle.rv32_isa.specs.declared.instr.Instr.{Instr}
use Rattle.rv32_isa.specs.declared.instr.Instr.TheVariants.{Load, Store}
use Rattle.rv32_isa.specs.declared.instr.LoadKind.TheVariants.{Lw}
use Rattle.rv32_isa.specs.declared.instr.StoreKind.TheVariants.{Sw}
use Rattle.rv32_machine.specs.Memory.{Stretch}
use Rattle.rv32_machine.specs.Arithmetic.{plus}
use Rattle.rv32_machine.specs.Steps.{set_reg}
use Rattle.rv32_steps.specs.Data.{Bases}
use Rattle.rv32_steps.specs.Straight.{register_value}
use Rattle.parallel_move.specs.declared.Spot.{Spot}
use Rattle.parallel_move.specs.declared.Spot.TheVariants.{Reg, Slot, Scratch}
use Rattle.low_code.specs.declared.program.PrimOp.{PrimOp}
use Rattle.low_code.specs.Arithmetic.{arithmetic}
use Rattle.rv32_select.specs.declared.source.Source.{Source}
use Rattle.rv32_select.specs.declared.source.Source.TheVariants.{At, Number}
use Rattle.rv32_select.specs.Emit.{target, keep, held, hold, low_bits, low_part, high_part, load_code, save_code, immediate, is_immediate, operands_held, operate_on, operate_in_order, is_free, prim_code}
use Rattle.rv32_select.proofs.Straight.{Data, with_reg, with_heap, Good, Does, does_on, does_load_heap, does_store_heap, small_word}
use Rattle.rv32_select.proofs.NumberParts.{value_is}
use Rattle.rv32_select.proofs.FrameViews.{spots, InFrame, Kept, kept_on, in_frame, kept_reg}
use Rattle.rv32_select.proofs.OperandsRead.{read, Readable, IsPlace, Held, holds, held_not_seven, held_stays, read_same, seen_past, Sets, kept_to}
use Rattle.rv32_select.proofs.Arithmetic.{operation_done, immediate_done, arithmetic_turns}
use Rattle.rv32_machine.proofs.Registers.{set_there, set_here}

module _ (c : Stretch) (b : Bases) (j slots : ℕ) where
  pub hold_kept : (r : ℕ) (s : Source) (d : Data) (h : Held c b j slots r s d) → 5 ≤ r
      → Kept c b j slots d (with_reg (with_reg d 7 h.seven) r h.own)
  hold_kept r s d h lo = kept_on c b j slots (kept_reg c b j slots d 7 h.seven (omega arith))
      (kept_reg c b j slots (with_reg d 7 h.seven) r h.own lo)

  pub hold_seen : (r : ℕ) (s : Source) (d : Data) (h : Held c b j slots r s d) → 5 ≤ r → r < 8
      → (t : Spot) → IsPlace c b j slots t → spots c b j slots
      (with_reg (with_reg d 7 h.seven) r h.own) t ≡ spots c b j slots d t
  hold_seen r s d h lo hi t o = seen_past c b j slots (with_reg d 7 h.seven) r h.own lo hi t o ∙
      seen_past c b j slots d 7 h.seven (omega arith) (omega arith) t o

  -- a register that is the target of a place
  target_place : (t : Spot) → IsPlace c b j slots t → (target 5 t ≡ 5) ⊎ (8 ≤ target 5 t)
  target_place (Reg r) o = inr o.0.0
  target_place (Slot k) o = inl refl
  target_place Scratch o = absurd (o.1 refl)

  -- ---- words of cells

  -- the low bits of an address in the offset
  bits_below : (k n : ℕ) → low_bits k n ≤ n
  bits_below k n = either (nat_lt (n % 2048 + 4 * (k % 512)) 2048)
    where
      either : (r : Bool) → (if r then n % 2048 else 0) ≤ n
      either true = omega arith
      either false = omega arith

  high_readable : (s : Source) (k : ℕ) → Readable c b j slots s
      → Readable c b j slots (high_part k s)
  high_readable (At s) k readable = readable
  high_readable (Number n) k readable = omega (arith, readable)

  high_there : (s : Source) (k i : ℕ) (d : Data) → read c b j slots d s ≡ b.heap + 4 * i → k < 512
      → b.heap + 4 * (i + k) < 2 ^ 32
      → plus (read c b j slots d (high_part k s)) (low_part k s + 4 * (k % 512)) ≡ b.heap + 4 *
      (i + k)
  high_there (At s) k i d is small below = ap (λ x. plus x (0 + 4 * (k % 512))) is ∙ omega
      (arith, small, below)
  high_there (Number n) k i d is small below = parts (low_bits k n) (bits_below k n)
    where
      parts : (low : ℕ) → low ≤ n → plus (n - low) (low + 4 * (k % 512)) ≡ b.heap + 4 * (i + k)
      parts low le =
          let whole : (n - low) + (low + 4 * (k % 512)) ≡ b.heap + 4 * (i + k)
          = omega (arith, is, small, le) in
          ap (λ x. x % 2 ^ 32) whole ∙ omega (arith, below)

  -- a word of the heap by this offset from an operand
  sets_word : (t : Spot) (s : Source) (off i : ℕ) (d : Data) → Good c b d → InFrame c b j slots d
      → IsPlace c b j slots t → Readable c b j slots s
      → plus (read c b j slots d s) off ≡ b.heap + 4 * i → i < length d.heap
      → Sets c b j slots (hold 5 s ++ (Load Lw (target 5 t) (held 5 s) (pos off) ∷ keep 5 t)) d t
      (get_or d.heap i 0)
  sets_word t s off i d g f o readable is inside =
      let h = holds c b j slots 5 s d g f (omega arith) (omega arith) readable in
      let e = with_reg (with_reg d 7 h.seven) 5 h.own in
      let place : plus (register_value e.regs (held 5 s)) off ≡ b.heap + 4 * i
      = ap (λ x. plus x off) h.value_is' ∙ is in
      let does = does_on c b h.does
      (does_load_heap c b (target 5 t) (held 5 s) (pos off) i e h.does.good place inside) in
      let last = kept_to c b j slots t e (get_or d.heap i 0) o
      (small_word c b d.heap i g.laid.heap_words) f (hold_kept 5 s d h (omega arith))
      (hold_seen 5 s d h (omega arith) (omega arith)) does in
      subst (λ x. Sets c b j slots x d t (get_or d.heap i 0))
      (append_assoc (hold 5 s) (Load Lw (target 5 t) (held 5 s) (pos off) ∷ []) (keep 5 t)) last

  pub sets_load : (t : Spot) (s : Source) (k i : ℕ) (d : Data) → Good c b d → InFrame c b j slots d
      → IsPlace c b j slots t → Readable c b j slots s → read c b j slots d s ≡ b.heap + 4 * i
      → k < 512 → i + k < length d.heap
      → Sets c b j slots (load_code t s k) d t (get_or d.heap (i + k) 0)
  sets_load t s k i d g f o readable is small inside =
      let below = g.laid.heap_below in
      let top = g.top in
      sets_word t (high_part k s) (low_part k s + 4 * (k % 512)) (i + k) d g f o
      (high_readable s k readable) (high_there s k i d is small (omega arith)) inside

  -- a word of the heap is stored, and no place changes
  pub record Stores (is : List Instr) (d : Data) (i n : ℕ) : Type 0 where
    pub to : Data
    pub does : Does c b is d to
    pub heap : to.heap ≡ set d.heap i n
    pub stack : to.stack ≡ d.stack
    pub same : (s : Spot) → IsPlace c b j slots s → spots c b j slots to s ≡ spots c b j slots d s
    pub others : (r : ℕ) → r < 5 → to.regs r ≡ d.regs r

  stores_at : (cell word : Source) (off i : ℕ) (d : Data) → Good c b d → InFrame c b j slots d
      → Readable c b j slots cell → Readable c b j slots word
      → plus (read c b j slots d cell) off ≡ b.heap + 4 * i → i < length d.heap
      → Stores (hold 5 cell ++ (hold 6 word ++ Store Sw (held 6 word) (held 5 cell) (pos off) ∷ []))
      d i (read c b j slots d word)
  stores_at cell word off i d g f readable readable' is inside =
      let h = holds c b j slots 5 cell d g f (omega arith) (omega arith) readable in
      let e = with_reg (with_reg d 7 h.seven) 5 h.own in
      let h' = holds c b j slots 6 word e h.does.good
      (in_frame c b j slots f (hold_kept 5 cell d h (omega arith))) (omega arith) (omega arith)
      readable' in
      let e' = with_reg (with_reg e 7 h'.seven) 6 h'.own in
      let base : register_value e'.regs (held 5 cell) ≡ read c b j slots d cell =
      held_stays c b j slots (set_reg e.regs 7 h'.seven) 5 0 6 h'.own cell readable (omega arith)
      (omega arith) (omega arith)
      ∙ held_stays c b j slots e.regs 5 0 7 h'.seven cell readable (omega arith) (omega arith)
      (omega arith)
      ∙ h.value_is' in
      let place : plus (register_value e'.regs (held 5 cell)) off ≡ b.heap + 4 * i
      = ap (λ x. plus x off) base ∙ is in
      let same_word = h'.value_is' ∙ read_same c b j slots word d e readable'
      (hold_seen 5 cell d h (omega arith) (omega arith)) in
      let store = does_store_heap c b (held 6 word) (held 5 cell) (pos off) i
      (read c b j slots d word) e' h'.does.good
      (held_not_seven c b j slots 6 word readable' (omega arith)) place inside same_word in
      record {
        to = with_heap e' (set d.heap i (read c b j slots d word));
        does = does_on c b h.does (does_on c b h'.does store);
        heap = refl;
        stack = refl;
        same = λ s o. hold_seen 6 word e h' (omega arith) (omega arith) s o ∙ hold_seen 5 cell d h
            (omega arith) (omega arith) s o;
        others = λ r lt.
            set_there (set_reg e.regs 7 h'.seven) 6 h'.own r (omega arith) ∙ set_there e.regs 7
            h'.seven r (omega arith)
            ∙ set_there (set_reg d.regs 7 h.seven) 5 h.own r (omega arith) ∙ set_there d.regs 7
            h.seven r (omega arith);
      }

  pub stores_word : (cell word : Source) (k i : ℕ) (d : Data) → Good c b d → InFrame c b j slots d
      → Readable c b j slots cell → Readable c b j slots word
      → read c b j slots d cell ≡ b.heap + 4 * i → k < 512 → i + k < length d.heap
      → Stores (save_code cell k word) d (i + k) (read c b j slots d word)
  stores_word cell word k i d g f readable readable' is small inside =
      let below = g.laid.heap_below in
      let top = g.top in
      stores_at (high_part k cell) word (low_part k cell + 4 * (k % 512)) (i + k) d g f
      (high_readable cell k readable) readable' (high_there cell k i d is small (omega arith))
      inside

  -- ---- operations

  -- a register has this word, by code that changes x5 to x7 alone beside it
  record Computed (is : List Instr) (r n : ℕ) (d : Data) : Type 0 where
    pub before : Data
    pub does : Does c b is d (with_reg before r n)
    pub same : (s : Spot) → IsPlace c b j slots s → spots c b j slots before s ≡ spots c b j slots d
        s
    pub keeps : Kept c b j slots d before

  computed_two : (p : PrimOp) (r : ℕ) (left right : Source) (d : Data) → Good c b d
      → InFrame c b j slots d → (r ≡ 5) ⊎ (8 ≤ r) → Readable c b j slots left
      → Readable c b j slots right
      → Computed (operands_held p r left right) r
      (arithmetic p (read c b j slots d left) (read c b j slots d right)) d
  computed_two p r left right d g f place readable readable' =
      let h = holds c b j slots 5 left d g f (omega arith) (omega arith) readable in
      let e = with_reg (with_reg d 7 h.seven) 5 h.own in
      let h' = holds c b j slots 6 right e h.does.good
      (in_frame c b j slots f (hold_kept 5 left d h (omega arith))) (omega arith) (omega arith)
      readable' in
      let e' = with_reg (with_reg e 7 h'.seven) 6 h'.own in
      let left_is : register_value e'.regs (held 5 left) ≡ read c b j slots d left =
      held_stays c b j slots (set_reg e.regs 7 h'.seven) 5 0 6 h'.own left readable (omega arith)
      (omega arith) (omega arith)
      ∙ held_stays c b j slots e.regs 5 0 7 h'.seven left readable (omega arith) (omega arith)
      (omega arith)
      ∙ h.value_is' in
      let right_is = h'.value_is' ∙ read_same c b j slots right d e readable'
      (hold_seen 5 left d h (omega arith) (omega arith)) in
      let one : 1 ≤ r = elim place [ inl x ↦ omega arith | inr x ↦ omega arith ] in
      let last = operation_done c b p r (held 5 left) (held 6 right) (read c b j slots d left)
      (read c b j slots d right) e' h'.does.good one
      (held_not_seven c b j slots 5 left readable (omega arith))
      (held_not_seven c b j slots 6 right readable' (omega arith)) left_is right_is in
      record {
        before = e';
        does = does_on c b h.does (does_on c b h'.does last);
        same = λ s o. hold_seen 6 right e h' (omega arith) (omega arith) s o ∙ hold_seen 5 left d h
            (omega arith) (omega arith) s o;
        keeps = kept_on c b j slots (hold_kept 5 left d h (omega arith))
            (hold_kept 6 right e h' (omega arith));
      }

  computed_on : (p : PrimOp) (r : ℕ) (left right : Source) (d : Data) → Good c b d
      → InFrame c b j slots d → (r ≡ 5) ⊎ (8 ≤ r) → Readable c b j slots left
      → Readable c b j slots right
      → Computed (operate_on p r left right) r
      (arithmetic p (read c b j slots d left) (read c b j slots d right)) d
  computed_on p r left (At s) d g f place readable readable'
      = computed_two p r left (At s) d g f place readable readable'
  computed_on p r left (Number n) d g f place readable readable' = by_test (is_immediate p n) refl
    where
      by_test : (t : Bool) → is_immediate p n ≡ t → Computed
          (if t then hold 5 left ++ immediate p r (held 5 left) n
          else operands_held p r left (Number n)) r (arithmetic p (read c b j slots d left) n) d
      by_test false e = computed_two p r left (Number n) d g f place readable readable'
      by_test true t =
          let h = holds c b j slots 5 left d g f (omega arith) (omega arith) readable in
          let e = with_reg (with_reg d 7 h.seven) 5 h.own in
          let one : 1 ≤ r = elim place [ inl x ↦ omega arith | inr x ↦ omega arith ] in
          let last = immediate_done c b p r (held 5 left) (read c b j slots d left) n e h.does.good
          one (held_not_seven c b j slots 5 left readable (omega arith)) readable' t h.value_is'
          in
          record {
            before = e;
            does = does_on c b h.does last;
            same = hold_seen 5 left d h (omega arith) (omega arith);
            keeps = hold_kept 5 left d h (omega arith);
          }

  computed : (p : PrimOp) (r : ℕ) (left right : Source) (d : Data) → Good c b d
      → InFrame c b j slots d → (r ≡ 5) ⊎ (8 ≤ r) → Readable c b j slots left
      → Readable c b j slots right
      → Computed (operate_in_order p r left right) r
      (arithmetic p (read c b j slots d left) (read c b j slots d right)) d
  computed p r (At s) right d g f place readable readable'
      = computed_on p r (At s) right d g f place readable readable'
  computed p r (Number n) right d g f place readable readable' = by_test (is_free p) refl
    where
      by_test : (t : Bool) → is_free p ≡ t → Computed
          (if t then operate_on p r right (Number n) else operate_on p r (Number n) right) r
          (arithmetic p n (read c b j slots d right)) d
      by_test false e = computed_on p r (Number n) right d g f place readable readable'
      by_test true e =
          subst (λ x. Computed (operate_on p r right (Number n)) r x d)
          (arithmetic_turns p (read c b j slots d right) n e)
          (computed_on p r right (Number n) d g f place readable' readable)

  pub sets_prim : (p : PrimOp) (t : Spot) (left right : Source) (d : Data) → Good c b d
      → InFrame c b j slots d → IsPlace c b j slots t → Readable c b j slots left
      → Readable c b j slots right
      → Sets c b j slots (prim_code p t left right) d t
      (arithmetic p (read c b j slots d left) (read c b j slots d right))
  sets_prim p t left right d g f o readable readable' =
      let m = computed p (target 5 t) left right d g f (target_place t o) readable readable' in
      let n = arithmetic p (read c b j slots d left) (read c b j slots d right) in
      let r = target 5 t in
      let one : 1 ≤ target 5 t = elim (target_place t o)
      [ inl x ↦ omega arith | inr x ↦ omega arith ] in
      let ne : target 5 t ≢ 7 = elim (target_place t o)
      [ inl x ↦ omega arith | inr x ↦ omega arith ] in
      let lt : n < 2 ^ 32 = subst (λ x. x < 2 ^ 32)
      (value_is (set_reg m.before.regs r n) r one ∙ set_here m.before.regs r n)
      (m.does.good.small r ne) in
      kept_to c b j slots t m.before n o lt f m.keeps m.same m.does
