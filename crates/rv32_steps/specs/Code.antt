-- Code in memory: its segment comes first, and the other segments are whatever they are.
use Rattle.std.specs.Prelude.{◌≡◌, ℕ, ◌+◌, List, [], ◌∷◌, ◌++◌}
use Rattle.rv32_isa.specs.declared.instr.Instr.{Instr}
use Rattle.rv32_isa.specs.Table.{word_of, InRange}
use Rattle.rv32_machine.specs.Arithmetic.{plus}
use Rattle.rv32_machine.specs.Memory.{Stretch, bytes_of}
use Rattle.rv32_machine.specs.Steps.{step, act}
use Rattle.rv32_steps.specs.Leads.{at}

-- instructions as the bytes of their words
abbrev pub code_bytes : List Instr → List ℕ
code_bytes [] = []
code_bytes (i ∷ is) = bytes_of 4 (word_of i) ++ code_bytes is

abbrev pub AllInRange : List Instr → Type 0
AllInRange [] = Unit {0}
AllInRange (i ∷ is) = InRange i × AllInRange is

-- an instruction stands at an address of the code: with pc there a step does it, whatever the
-- registers and the other segments
pub record InstructionIsAt (c : Stretch) (pc : ℕ) (i : Instr) : Type 0 where
  pub steps : (regs : ℕ → ℕ) (rest : List Stretch)
      → step (at regs pc (c ∷ rest)) ≡ act (at regs pc (c ∷ rest)) i
  pub next : plus pc 4 ≡ pc + 4

-- instructions stand from an address on, one each four bytes
abbrev pub CodeIsAt : Stretch → ℕ → List Instr → Type 0
CodeIsAt c pc [] = Unit {0}
CodeIsAt c pc (i ∷ is) = InstructionIsAt c pc i × CodeIsAt c (pc + 4) is
