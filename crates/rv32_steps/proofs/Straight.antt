-- Straight-line code over registers, a heap and a stack: one lemma for code of any length.
use Rattle.std.proofs.Common.{◌≡◌, ℕ, ◌+◌, ◌*◌, ◌^◌, ◌<◌, ◌≤◌, List, [], ◌∷◌, length, get_or, set, Bool, true, false, ℤ, inl, inr, refl, sym, ap, ◌∙◌, subst, arith}
use Rattle.std.proofs.Math.ListN.{length-set}
use Rattle.std.specs.Prelude.{nat_lt, if◌then◌else◌}
use Rattle.std.proofs.lemmas.Bool.Decides.{nat_tests}
use Rattle.rv32_isa.specs.declared.instr.Instr.{Instr}
use Rattle.rv32_isa.specs.declared.instr.Instr.TheVariants.{Lui, Auipc, Jal, Jalr, Branch, Load, Store, OpImm, Shift, Op, Fence, Ecall, Ebreak}
use Rattle.rv32_isa.specs.declared.instr.LoadKind.TheVariants.{Lb, Lh, Lw, Lbu, Lhu}
use Rattle.rv32_isa.specs.declared.instr.StoreKind.TheVariants.{Sb, Sh, Sw}
use Rattle.rv32_machine.specs.Memory.{Stretch, end_of}
use Rattle.rv32_machine.specs.Arithmetic.{plus, pattern}
use Rattle.rv32_machine.specs.Steps.{State, Next, act, put}
use Rattle.rv32_steps.specs.Leads.{at, StepsTo}
use Rattle.rv32_steps.specs.Code.{InstructionIsAt, CodeIsAt}
use Rattle.rv32_steps.specs.Data.{words_bytes, Bases, Words, word_segment, memory_of, MemoryIsLaidOut, word_index, IsWordIndex, IsWord, word_at, with_word}
use Rattle.rv32_steps.specs.Straight.{register_value, InstructionIsAllowed, InstructionsAreAllowed, regs_after, words_after, straight_regs, straight_words}
use Rattle.rv32_steps.specs.Laws.{InstructionsChangeState, StraightCodeRuns}
use Rattle.rv32_steps.proofs.Moves.{stays, goes, one}
use Rattle.rv32_steps.proofs.Words.{words_length, are_set}
use Rattle.rv32_steps.proofs.Access.{lw_second, lw_third, sw_second, sw_third}

-- the words of the heap are below the stack, and those of the stack are not
pub in_heap : (c : Stretch) (b : Bases) (w : Words) (a : ℕ) → MemoryIsLaidOut c b w
    → IsWordIndex b.heap w.heap a → nat_lt a b.stack ≡ true
in_heap c b w a ok is =
    let low = ok.heap_below in
    let place = is.0 in
    let lt = is.1 in
    let below : a < b.stack = omega arith in
    grind (arith, nat_tests)

pub in_stack : (b : Bases) (w : Words) (a : ℕ) → IsWordIndex b.stack w.stack a
    → nat_lt a b.stack ≡ false
in_stack b w a is = let place = is.0 in let high : b.stack ≤ a = omega arith
    in grind (arith, nat_tests)

-- a store keeps the segments apart
heap_set : (c : Stretch) (b : Bases) (w : Words) (k v : ℕ) → MemoryIsLaidOut c b w → v < 2 ^ 32
    → MemoryIsLaidOut c b (record { heap = set w.heap k v; stack = w.stack })
heap_set c b w k v ok lt = record {
  fixed = ok.fixed;
  code_below = ok.code_below;
  heap_below = let low = ok.heap_below in omega (arith, length-set w.heap k v);
  heap_four = ok.heap_four;
  stack_four = ok.stack_four;
  heap_words = are_set w.heap k v ok.heap_words lt;
  stack_words = ok.stack_words;
}

stack_set : (c : Stretch) (b : Bases) (w : Words) (k v : ℕ) → MemoryIsLaidOut c b w → v < 2 ^ 32
    → MemoryIsLaidOut c b (record { heap = w.heap; stack = set w.stack k v })
stack_set c b w k v ok lt = record {
  fixed = ok.fixed;
  code_below = ok.code_below;
  heap_below = ok.heap_below;
  heap_four = ok.heap_four;
  stack_four = ok.stack_four;
  heap_words = ok.heap_words;
  stack_words = are_set w.stack k v ok.stack_words lt;
}

-- the end of the heap's segment
pub heap_end : (c : Stretch) (b : Bases) (w : Words) → MemoryIsLaidOut c b w
    → b.heap + length (words_bytes w.heap) ≤ b.stack
heap_end c b w ok = let low = ok.heap_below in omega (arith, words_length w.heap)

pub code_end : (c : Stretch) (b : Bases) (w : Words) → MemoryIsLaidOut c b w → end_of c ≤ b.stack
code_end c b w ok = let low = ok.code_below in let high = ok.heap_below in omega arith

module _ (c : Stretch) (b : Bases) (rest : List Stretch) where
  loads : (regs : ℕ → ℕ) (pc : ℕ) (w : Words) (rd rs1 : ℕ) (imm : ℤ) → MemoryIsLaidOut c b w
      → IsWord b w (plus (register_value regs rs1) (pattern imm)) → let s : State
      = at regs pc (memory_of c b w rest) in act s (Load Lw rd rs1 imm) ≡ put s rd
      (word_at b w (plus (register_value regs rs1) (pattern imm)))
  loads regs pc w rd rs1 imm ok is =
      let a = plus (register_value regs rs1) (pattern imm) in
      let s : State = at regs pc (memory_of c b w rest) in
      let choice = λ (t : Bool). put s rd
      (if t then get_or w.heap (word_index b.heap a) 0
      else get_or w.stack (word_index b.stack a) 0) in
      elim is [
        | inl h ↦ lw_second c pc regs b.heap w.heap (word_segment b.stack w.stack ∷ rest) rd rs1
            (word_index b.heap a) imm ok.code_below ok.heap_four ok.heap_words h.1 h.0 ∙ ap choice
            (sym (in_heap c b w a ok h))
        | inr h ↦ lw_third c (word_segment b.heap w.heap) pc regs b.stack w.stack rest rd rs1
            (word_index b.stack a) imm (code_end c b w ok) (heap_end c b w ok) ok.stack_four
            ok.stack_words h.1 h.0 ∙ ap choice (sym (in_stack b w a h))
      ]

  stores : (regs : ℕ → ℕ) (pc : ℕ) (w : Words) (rs2 rs1 : ℕ) (imm : ℤ) → MemoryIsLaidOut c b w
      → IsWord b w (plus (register_value regs rs1) (pattern imm))
      → act (at regs pc (memory_of c b w rest)) (Store Sw rs2 rs1 imm) ≡ Next
      (at regs (plus pc 4)
      (memory_of c b
      (with_word b w (plus (register_value regs rs1) (pattern imm)) (register_value regs rs2))
      rest))
  stores regs pc w rs2 rs1 imm ok is =
      let a = plus (register_value regs rs1) (pattern imm) in
      let v = register_value regs rs2 in
      let in_the_heap : Words = record
      { heap = set w.heap (word_index b.heap a) v; stack = w.stack } in
      let in_the_stack : Words = record
      { heap = w.heap; stack = set w.stack (word_index b.stack a) v } in
      let choice = λ (t : Bool). Next
      (at regs (plus pc 4) (memory_of c b (if t then in_the_heap else in_the_stack) rest)) in
      elim is [
        | inl h ↦ sw_second c pc regs b.heap w.heap (word_segment b.stack w.stack ∷ rest) rs2 rs1
            (word_index b.heap a) imm ok.fixed ok.heap_four h.1 h.0 ∙ ap choice
            (sym (in_heap c b w a ok h))
        | inr h ↦ sw_third c (word_segment b.heap w.heap) pc regs b.stack w.stack rest rs2 rs1
            (word_index b.stack a) imm ok.fixed (heap_end c b w ok) ok.stack_four h.1 h.0 ∙ ap
            choice (sym (in_stack b w a h))
      ]

  pub still_apart : (w : Words) (a v : ℕ) → MemoryIsLaidOut c b w → v < 2 ^ 32
      → MemoryIsLaidOut c b (with_word b w a v)
  still_apart w a v ok lt = by_place (nat_lt a b.stack)
    where
      by_place : (t : Bool) → MemoryIsLaidOut c b
          (if t then (record { heap = set w.heap (word_index b.heap a) v; stack = w.stack })
          else (record { heap = w.heap; stack = set w.stack (word_index b.stack a) v }))
      by_place true = heap_set c b w (word_index b.heap a) v ok lt
      by_place false = stack_set c b w (word_index b.stack a) v ok lt

  -- what one instruction of straight code does
  pub acts_on : (i : Instr) (regs : ℕ → ℕ) (pc : ℕ) (w : Words) → MemoryIsLaidOut c b w
      → InstructionIsAllowed b i regs w →
      (act (at regs pc (memory_of c b w rest)) i ≡ Next
      (at (regs_after b i regs w) (plus pc 4) (memory_of c b (words_after b i regs w) rest)))
      × MemoryIsLaidOut c b (words_after b i regs w)
  acts_on (Lui rd imm) regs pc w ok asks = (refl, ok)
  acts_on (OpImm kind rd rs1 imm) regs pc w ok asks = (refl, ok)
  acts_on (Shift kind rd rs1 amount) regs pc w ok asks = (refl, ok)
  acts_on (Op kind rd rs1 rs2) regs pc w ok asks = (refl, ok)
  acts_on (Load Lw rd rs1 imm) regs pc w ok asks = (loads regs pc w rd rs1 imm ok asks, ok)
  acts_on (Store Sw rs2 rs1 imm) regs pc w ok asks =
      (stores regs pc w rs2 rs1 imm ok asks.0, still_apart w _ _ ok asks.1)
  acts_on (Load Lb rd rs1 imm) regs pc w ok asks = absurd asks
  acts_on (Load Lh rd rs1 imm) regs pc w ok asks = absurd asks
  acts_on (Load Lbu rd rs1 imm) regs pc w ok asks = absurd asks
  acts_on (Load Lhu rd rs1 imm) regs pc w ok asks = absurd asks
  acts_on (Store Sb rs2 rs1 imm) regs pc w ok asks = absurd asks
  acts_on (Store Sh rs2 rs1 imm) regs pc w ok asks = absurd asks
  acts_on (Auipc rd imm) regs pc w ok asks = absurd asks
  acts_on (Jal rd off) regs pc w ok asks = absurd asks
  acts_on (Jalr rd rs1 imm) regs pc w ok asks = absurd asks
  acts_on (Branch kind rs1 rs2 off) regs pc w ok asks = absurd asks
  acts_on (Fence top rs1 rd) regs pc w ok asks = absurd asks
  acts_on Ecall regs pc w ok asks = absurd asks
  acts_on Ebreak regs pc w ok asks = absurd asks

  each : (pc : ℕ) (regs : ℕ → ℕ) (w : Words) (i : Instr) → InstructionIsAt c pc i
      → MemoryIsLaidOut c b w → InstructionIsAllowed b i regs w
      → StepsTo 1 (at regs pc (memory_of c b w rest)) []
      (at (regs_after b i regs w) (pc + 4) (memory_of c b (words_after b i regs w) rest))
      × MemoryIsLaidOut c b (words_after b i regs w)
  each pc regs w i h ok asks =
      let does = acts_on i regs pc w ok asks in
      let step_is = h.steps regs (word_segment b.heap w.heap ∷ word_segment b.stack w.stack ∷ rest)
      in
      let next = ap
      (λ q. Next (at (regs_after b i regs w) q (memory_of c b (words_after b i regs w) rest)))
      h.next in
      (one _ _ (step_is ∙ does.0 ∙ next), does.1)

  -- to a place behind the code that is known by an equation
  pub straight : (is : List Instr) (pc to : ℕ) (regs : ℕ → ℕ) (w : Words) → to ≡ pc + 4 * length is
      → MemoryIsLaidOut c b w → InstructionsAreAllowed b is regs w → CodeIsAt c pc is
      → StepsTo (length is) (at regs pc (memory_of c b w rest)) []
      (at (straight_regs b is regs w) to (memory_of c b (straight_words b is regs w) rest))
      × MemoryIsLaidOut c b (straight_words b is regs w)
  straight [] pc to regs w e ok asks stand =
      let same : pc ≡ to = omega arith in (
        subst (λ q. StepsTo 0 (at regs pc (memory_of c b w rest)) []
            (at regs q (memory_of c b w rest))) same (stays (at regs pc (memory_of c b w rest))),
        ok,
      )
  straight (i ∷ is) pc to regs w e ok asks stand =
      let first = each pc regs w i stand.0 ok asks.0 in
      let more = straight is (pc + 4) to (regs_after b i regs w) (words_after b i regs w)
      (omega arith) first.1 asks.1 stand.1 in
      let count : 1 + length is ≡ length (i ∷ is) = omega arith in
      let end = at (straight_regs b (i ∷ is) regs w) to
      (memory_of c b (straight_words b (i ∷ is) regs w) rest) in (
        subst (λ k. StepsTo k (at regs pc (memory_of c b w rest)) [] end) count
            (goes first.0 more.0),
        more.1,
      )

pub straight_code_runs : StraightCodeRuns
straight_code_runs c b rest is pc regs w ok stand asks
    = (straight c b rest is pc (pc + 4 * length is) regs w refl ok asks stand).0

pub instructions_act : InstructionsChangeState
instructions_act c b rest i regs pc w ok asks = acts_on c b rest i regs pc w ok asks
