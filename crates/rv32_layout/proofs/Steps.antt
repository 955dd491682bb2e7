-- What the machine does in one step with the instructions that an item on its way takes, and that
-- words have their
-- instructions in memory.
use Rattle.std.proofs.Common.{◌≡◌, ℕ, ◌+◌, ◌-◌, ◌*◌, ◌/◌, ◌%◌, ◌^◌, ◌<◌, ◌≤◌, List, [], ◌∷◌, ◌++◌, length, take, drop, Some, true, false, refl, sym, ap, ◌∙◌, append_assoc, length-append, subst, arith}
use Rattle.std.specs.Prelude.{ℤ, nat_eq, if◌then◌else◌}
use Rattle.std.proofs.lemmas.Bool.Decides.{nat_tests}
use Rattle.elf32.specs.File.{words as words_bytes}
use Rattle.rv32_isa.specs.declared.instr.Instr.{Instr}
use Rattle.rv32_isa.specs.declared.instr.Instr.TheVariants.{Auipc, Jal, Jalr, Branch}
use Rattle.rv32_isa.specs.declared.instr.BranchKind.{BranchKind}
use Rattle.rv32_isa.specs.Table.{instr_of}
use Rattle.rv32_machine.specs.declared.memory.Right.TheVariants.{Execute}
use Rattle.rv32_machine.specs.declared.machine.TrapKind.TheVariants.{MisalignedJump}
use Rattle.rv32_machine.specs.Memory.{Stretch, end_of, access, read_at, bytes_of, little_endian}
use Rattle.rv32_machine.specs.Arithmetic.{plus, pattern, is_taken}
use Rattle.rv32_machine.specs.Steps.{Outcome, Next, Trapped, step, fetch_and_execute, act_on, set_reg, jump}
use Rattle.rv32_steps.specs.Leads.{at}
use Rattle.rv32_steps.specs.Code.{InstructionIsAt}
use Rattle.rv32_steps.specs.Straight.{register_value}
use Rattle.rv32_steps.specs.Trace.{decoded, instruction_at}
use Rattle.rv32_steps.proofs.Fetch.{in_first, four_back, cut}
use Rattle.rv32_layout.specs.Places.{Encode}

module _ (c : Stretch) (pc : ℕ) (regs : ℕ → ℕ) (rest : List Stretch) where
  jumps : (target to : ℕ) (o : ℕ → Outcome) → target ≡ to → to % 4 ≡ 0
      → jump target (o target) ≡ o to
  jumps target to o e four =
      let aligned : nat_eq (to % 4) 0 ≡ true = grind (arith, nat_tests) in
      ap (λ t. jump t (o t)) e ∙ ap (λ b. if b then o to else Trapped MisalignedJump) aligned

  pub jal : (rd : ℕ) (off : ℤ) (to : ℕ) → InstructionIsAt c pc (Jal rd off)
      → plus pc (pattern off) ≡ to → to % 4 ≡ 0 → step (at regs pc (c ∷ rest)) ≡ Next
      (at (set_reg regs rd (pc + 4)) to (c ∷ rest))
  jal rd off to h e four =
      h.steps regs rest
      ∙ jumps (plus pc (pattern off)) to (λ t. Next (at (set_reg regs rd (plus pc 4)) t (c ∷ rest)))
      e four
      ∙ ap (λ p. Next (at (set_reg regs rd p) to (c ∷ rest))) h.next

  pub auipc : (rd imm : ℕ) → InstructionIsAt c pc (Auipc rd imm)
      → step (at regs pc (c ∷ rest)) ≡ Next
      (at (set_reg regs rd (plus pc (imm * 4096))) (pc + 4) (c ∷ rest))
  auipc rd imm h =
      h.steps regs rest ∙ ap (λ p. Next (at (set_reg regs rd (plus pc (imm * 4096))) p (c ∷ rest)))
      h.next

  pub jalr : (rd rs1 to : ℕ) (imm : ℤ) → InstructionIsAt c pc (Jalr rd rs1 imm)
      → plus (register_value regs rs1) (pattern imm) / 2 * 2 ≡ to → to % 4 ≡ 0
      → step (at regs pc (c ∷ rest)) ≡ Next (at (set_reg regs rd (pc + 4)) to (c ∷ rest))
  jalr rd rs1 to imm h e four =
      h.steps regs rest
      ∙ jumps (plus (register_value regs rs1) (pattern imm) / 2 * 2) to
      (λ t. Next (at (set_reg regs rd (plus pc 4)) t (c ∷ rest))) e four
      ∙ ap (λ p. Next (at (set_reg regs rd p) to (c ∷ rest))) h.next

  pub taken : (kind : BranchKind) (rs1 rs2 : ℕ) (off : ℤ) (to : ℕ)
      → InstructionIsAt c pc (Branch kind rs1 rs2 off)
      → is_taken kind (register_value regs rs1) (register_value regs rs2) ≡ true
      → plus pc (pattern off) ≡ to → to % 4 ≡ 0 → step (at regs pc (c ∷ rest)) ≡ Next
      (at regs to (c ∷ rest))
  taken kind rs1 rs2 off to h t e four =
      let target = plus pc (pattern off) in
      h.steps regs rest
      ∙ ap (λ b. if b then jump target (Next (at regs target (c ∷ rest)))
      else Next (at regs (plus pc 4) (c ∷ rest))) t
      ∙ jumps target to (λ t. Next (at regs t (c ∷ rest))) e four

  pub not_taken : (kind : BranchKind) (rs1 rs2 : ℕ) (off : ℤ)
      → InstructionIsAt c pc (Branch kind rs1 rs2 off)
      → is_taken kind (register_value regs rs1) (register_value regs rs2) ≡ false
      → step (at regs pc (c ∷ rest)) ≡ Next (at regs (pc + 4) (c ∷ rest))
  not_taken kind rs1 rs2 off h t =
      let target = plus pc (pattern off) in
      h.steps regs rest
      ∙ ap (λ b. if b then jump target (Next (at regs target (c ∷ rest)))
      else Next (at regs (plus pc 4) (c ∷ rest))) t
      ∙ ap (λ p. Next (at regs p (c ∷ rest))) h.next

-- ---- words

-- a word as bytes
pub words_length : (ws : List ℕ) → length (words_bytes ws) ≡ 4 * length ws
words_length [] = refl
words_length (w ∷ ws) = let e = words_length ws in omega (arith, e)

pub word_bytes : (w : ℕ) (ws : List ℕ) → words_bytes (w ∷ ws) ≡ bytes_of 4 w ++ words_bytes ws
word_bytes w ws =
    let b2 : w / 65536 % 256 ≡ w / 256 / 256 % 256 = omega arith in
    let b3 : w / 16777216 % 256 ≡ w / 256 / 256 / 256 % 256 = omega arith in
    λ i. w % 256 ∷ (w / 256 % 256 ∷ (b2 i ∷ (b3 i ∷ words_bytes ws)))

-- an instruction is in memory: it stands there, and it is what is read there
pub record Has (c : Stretch) (pc : ℕ) (i : Instr) : Type 0 where
  pub holds : InstructionIsAt c pc i
  pub reads : (regs : ℕ → ℕ) (rest : List Stretch) → instruction_at (at regs pc (c ∷ rest)) ≡ Some i

abbrev pub HasAll : Stretch → ℕ → List Instr → Type 0
HasAll c pc [] = Unit {0}
HasAll c pc (i ∷ is) = Has c pc i × HasAll c (pc + 4) is

pub front : (c : Stretch) (pc : ℕ) (a b : List Instr) → HasAll c pc (a ++ b) → HasAll c pc a
front c pc [] b h = tt
front c pc (i ∷ a) b h = (h.0, front c (pc + 4) a b h.1)

pub back : (c : Stretch) (pc : ℕ) (a b : List Instr) → HasAll c pc (a ++ b)
    → HasAll c (pc + 4 * length a) b
back c pc [] b h = let e : pc ≡ pc + 4 * 0 = omega arith in subst (λ n. HasAll c n b) e h
back c pc (i ∷ a) b h =
    let e : pc + 4 + 4 * length a ≡ pc + 4 * length (i ∷ a) = omega arith in
    subst (λ n. HasAll c n b) e (back c (pc + 4) a b h.1)

has : (c : Stretch) (pc w : ℕ) (i : Instr) → c.exec ≡ true → pc % 4 ≡ 0 → c.first ≤ pc
    → pc + 4 ≤ end_of c → pc + 4 < 2 ^ 32 → instr_of w ≡ Some i → w < 2 ^ 32
    → take 4 (drop (pc - c.first) c.bytes) ≡ bytes_of 4 w → Has c pc i
unfolding step
has c pc w i x four lo hi top is small bytes =
    let word : little_endian (take 4 (drop (pc - c.first) c.bytes)) ≡ w
    = ap little_endian bytes ∙ four_back w small in
    let aligned : nat_eq (pc % 4) 0 ≡ true = grind (arith, nat_tests) in
    record {
      holds = record {
        steps = λ regs rest.
            let s = at regs pc (c ∷ rest) in
            ap (λ b. if b then fetch_and_execute s (access Execute (c ∷ rest) pc 4)
            else Trapped MisalignedJump) aligned
            ∙ ap (fetch_and_execute s) (in_first Execute c rest pc 4 x lo hi (omega arith))
            ∙ ap (λ v. act_on s v (instr_of v)) word
            ∙ ap (act_on s w) is;
        next = omega arith;
      };
      reads = λ regs rest.
          ap (λ a. decoded (read_at (c ∷ rest) 4 a))
          (in_first Execute c rest pc 4 x lo hi (omega arith))
          ∙ ap instr_of word ∙ is;
    }

-- where words that encode instructions are in the code, memory has these
pub all_there : (c : Stretch) (pre : List ℕ) (pc : ℕ) (is : List Instr) (ws : List ℕ)
    → c.exec ≡ true → c.bytes ≡ pre ++ words_bytes ws → pc ≡ c.first + length pre → pc % 4 ≡ 0
    → end_of c < 2 ^ 32 → Encode is ws → HasAll c pc is
all_there c pre pc [] [] x e p four top h = tt
all_there c pre pc [] (w ∷ ws) x e p four top h = absurd h
all_there c pre pc (i ∷ is) [] x e p four top h = absurd h
all_there c pre pc (i ∷ is) (w ∷ ws) x e p four top h =
    let b = bytes_of 4 w in
    let split : c.bytes ≡ pre ++ (b ++ words_bytes ws) = e ∙ ap (λ l. pre ++ l) (word_bytes w ws) in
    let total : length c.bytes ≡ length pre + (4 + 4 * length ws)
    = ap length e ∙ length-append pre (words_bytes (w ∷ ws)) ∙ ap (λ n. length pre + n)
    (words_length (w ∷ ws) ∙ omega arith) in
    let off : pc - c.first ≡ length pre = omega arith in
    let bytes : take 4 (drop (pc - c.first) c.bytes) ≡ b
    = ap (λ n. take 4 (drop n c.bytes)) off ∙ ap (λ l. take 4 (drop (length pre) l)) split ∙ cut
    pre b (words_bytes ws) in
    let here : Has c pc i = has c pc w i x four (omega arith) (omega arith) (omega arith) h.0 h.1.0
    bytes in
    let longer : length (pre ++ b) ≡ length pre + 4 = length-append pre b in (
      here,
      all_there c (pre ++ b) (pc + 4) is ws x
          (split ∙ sym (append_assoc pre b (words_bytes ws))) (omega arith) (omega arith) top h.1.1,
    )
