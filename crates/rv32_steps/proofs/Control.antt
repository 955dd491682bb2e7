-- Jumps, returns and branches.
use Rattle.std.proofs.Common.{◌≡◌, ℕ, ◌+◌, ◌*◌, ◌/◌, ◌%◌, ◌^◌, ◌<◌, List, [], ◌∷◌, true, false, ap, ◌∙◌, arith}
use Rattle.std.specs.Prelude.{ℤ, pos, nat_eq, if◌then◌else◌}
use Rattle.std.proofs.lemmas.Bool.Decides.{nat_tests}
use Rattle.rv32_isa.specs.declared.instr.Instr.TheVariants.{Jal, Jalr, Branch, OpImm}
use Rattle.rv32_isa.specs.declared.instr.BranchKind.{BranchKind}
use Rattle.rv32_isa.specs.declared.instr.ImmKind.TheVariants.{Addi}
use Rattle.rv32_machine.specs.declared.machine.TrapKind.TheVariants.{MisalignedJump}
use Rattle.rv32_machine.specs.Memory.{Stretch}
use Rattle.rv32_machine.specs.Arithmetic.{plus, pattern, is_taken}
use Rattle.rv32_machine.specs.Steps.{Outcome, Next, Trapped, set_reg, jump}
use Rattle.rv32_steps.proofs.Moves.{at, StepsTo, one}
use Rattle.rv32_steps.proofs.Fetch.{InstructionIsAt}

-- the immediate as it is added, whatever its sign
module _ (c : Stretch) (pc : ℕ) (regs : ℕ → ℕ) (rest : List Stretch) where
  pub addi : (rd rs1 : ℕ) (imm : ℤ) (v : ℕ) → InstructionIsAt c pc (OpImm Addi rd rs1 imm)
      → plus (if nat_eq rs1 0 then 0 else regs rs1) (pattern imm) ≡ v
      → StepsTo 1 (at regs pc (c ∷ rest)) [] (at (set_reg regs rd v) (pc + 4) (c ∷ rest))
  addi rd rs1 imm v h e =
      one _ _ (h.steps regs rest ∙ ap (λ x. Next (at (set_reg regs rd x) (plus pc 4) (c ∷ rest))) e
      ∙ ap (λ p. Next (at (set_reg regs rd v) p (c ∷ rest))) h.next)

  jumps : (target to : ℕ) (o : ℕ → Outcome) → target ≡ to → to % 4 ≡ 0
      → jump target (o target) ≡ o to
  jumps target to o e four =
      let aligned : nat_eq (to % 4) 0 ≡ true = grind (arith, nat_tests) in
      ap (λ t. jump t (o t)) e ∙ ap (λ b. if b then o to else Trapped MisalignedJump) aligned

  pub jal : (rd : ℕ) (off : ℤ) (to : ℕ) → InstructionIsAt c pc (Jal rd off)
      → plus pc (pattern off) ≡ to → to % 4 ≡ 0 → StepsTo 1 (at regs pc (c ∷ rest)) []
      (at (set_reg regs rd (pc + 4)) to (c ∷ rest))
  jal rd off to h e four =
      one _ _ (h.steps regs rest
      ∙ jumps (plus pc (pattern off)) to (λ t. Next (at (set_reg regs rd (plus pc 4)) t (c ∷ rest)))
      e four
      ∙ ap (λ p. Next (at (set_reg regs rd p) to (c ∷ rest))) h.next)

  -- a return: the address is in rs1
  pub jalr : (rd rs1 to : ℕ) → InstructionIsAt c pc (Jalr rd rs1 (pos 0))
      → (if nat_eq rs1 0 then 0 else regs rs1) ≡ to → to % 4 ≡ 0 → to < 2 ^ 32
      → StepsTo 1 (at regs pc (c ∷ rest)) [] (at (set_reg regs rd (pc + 4)) to (c ∷ rest))
  jalr rd rs1 to h e four lt =
      let there : plus to 0 / 2 * 2 ≡ to = omega arith in
      one _ _ (h.steps regs rest
      ∙ jumps (plus (if nat_eq rs1 0 then 0 else regs rs1) 0 / 2 * 2) to
      (λ t. Next (at (set_reg regs rd (plus pc 4)) t (c ∷ rest)))
      (ap (λ x. plus x 0 / 2 * 2) e ∙ there) four
      ∙ ap (λ p. Next (at (set_reg regs rd p) to (c ∷ rest))) h.next)

  pub taken : (kind : BranchKind) (rs1 rs2 : ℕ) (off : ℤ) (to : ℕ)
      → InstructionIsAt c pc (Branch kind rs1 rs2 off)
      → is_taken kind (if nat_eq rs1 0 then 0 else regs rs1) (if nat_eq rs2 0 then 0 else regs rs2)
      ≡ true → plus pc (pattern off) ≡ to → to % 4 ≡ 0
      → StepsTo 1 (at regs pc (c ∷ rest)) [] (at regs to (c ∷ rest))
  taken kind rs1 rs2 off to h t e four =
      let target = plus pc (pattern off) in
      one _ _ (h.steps regs rest
      ∙ ap (λ b. if b then jump target (Next (at regs target (c ∷ rest)))
      else Next (at regs (plus pc 4) (c ∷ rest))) t
      ∙ jumps target to (λ t. Next (at regs t (c ∷ rest))) e four)

  pub not_taken : (kind : BranchKind) (rs1 rs2 : ℕ) (off : ℤ)
      → InstructionIsAt c pc (Branch kind rs1 rs2 off)
      → is_taken kind (if nat_eq rs1 0 then 0 else regs rs1) (if nat_eq rs2 0 then 0 else regs rs2)
      ≡ false → StepsTo 1 (at regs pc (c ∷ rest)) [] (at regs (pc + 4) (c ∷ rest))
  not_taken kind rs1 rs2 off h t =
      let target = plus pc (pattern off) in
      one _ _ (h.steps regs rest
      ∙ ap (λ b. if b then jump target (Next (at regs target (c ∷ rest)))
      else Next (at regs (plus pc 4) (c ∷ rest))) t
      ∙ ap (λ p. Next (at regs p (c ∷ rest))) h.next)
