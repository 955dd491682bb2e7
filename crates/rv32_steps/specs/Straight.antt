-- Straight-line code: instructions that change registers, words of the heap and words of the stack,
-- and do not branch.
use Rattle.std.specs.Prelude.{ℕ, ◌^◌, ◌*◌, ◌<◌, List, [], ◌∷◌, nat_eq, if◌then◌else◌}
use Rattle.rv32_isa.specs.declared.instr.Instr.{Instr}
use Rattle.rv32_isa.specs.declared.instr.Instr.TheVariants.{Lui, OpImm, Shift, Op, Load, Store}
use Rattle.rv32_isa.specs.declared.instr.LoadKind.TheVariants.{Lw}
use Rattle.rv32_isa.specs.declared.instr.StoreKind.TheVariants.{Sw}
use Rattle.rv32_machine.specs.Arithmetic.{plus, pattern, op_value, imm_value, shift_value}
use Rattle.rv32_machine.specs.Steps.{set_reg}
use Rattle.rv32_steps.specs.Data.{Bases, Words, IsWord, word_at, with_word}

-- what a register reads as
abbrev pub register_value : (ℕ → ℕ) → ℕ → ℕ
register_value regs r = if nat_eq r 0 then 0 else regs r

-- what an instruction asks: a load and a store go to a word that is there, and a store is of a word
abbrev pub InstructionIsAllowed : Bases → Instr → (ℕ → ℕ) → Words → Type 0
InstructionIsAllowed b (Lui rd imm) regs w = Unit {0}
InstructionIsAllowed b (OpImm kind rd rs1 imm) regs w = Unit {0}
InstructionIsAllowed b (Shift kind rd rs1 amount) regs w = Unit {0}
InstructionIsAllowed b (Op kind rd rs1 rs2) regs w = Unit {0}
InstructionIsAllowed b (Load Lw rd rs1 imm) regs w =
    IsWord b w (plus (register_value regs rs1) (pattern imm))
InstructionIsAllowed b (Store Sw rs2 rs1 imm) regs w =
    IsWord b w (plus (register_value regs rs1) (pattern imm)) × (register_value regs rs2 < 2 ^ 32)
InstructionIsAllowed b _ regs w = ⊥

abbrev pub regs_after : Bases → Instr → (ℕ → ℕ) → Words → ℕ → ℕ
regs_after b (Lui rd imm) regs w = set_reg regs rd (imm * 4096)
regs_after b (OpImm kind rd rs1 imm) regs w =
    set_reg regs rd (imm_value kind (register_value regs rs1) (pattern imm))
regs_after b (Shift kind rd rs1 amount) regs w =
    set_reg regs rd (shift_value kind (register_value regs rs1) amount)
regs_after b (Op kind rd rs1 rs2) regs w =
    set_reg regs rd (op_value kind (register_value regs rs1) (register_value regs rs2))
regs_after b (Load Lw rd rs1 imm) regs w =
    set_reg regs rd (word_at b w (plus (register_value regs rs1) (pattern imm)))
regs_after b _ regs w = regs

abbrev pub words_after : Bases → Instr → (ℕ → ℕ) → Words → Words
words_after b (Store Sw rs2 rs1 imm) regs w =
    with_word b w (plus (register_value regs rs1) (pattern imm)) (register_value regs rs2)
words_after b _ regs w = w

-- the same of instructions one after the other
abbrev pub InstructionsAreAllowed : Bases → List Instr → (ℕ → ℕ) → Words → Type 0
InstructionsAreAllowed b [] regs w = Unit {0}
InstructionsAreAllowed b (i ∷ is) regs w =
    InstructionIsAllowed b i regs w
    × InstructionsAreAllowed b is (regs_after b i regs w) (words_after b i regs w)

abbrev pub straight_regs : Bases → List Instr → (ℕ → ℕ) → Words → ℕ → ℕ
straight_regs b [] regs w = regs
straight_regs b (i ∷ is) regs w =
    straight_regs b is (regs_after b i regs w) (words_after b i regs w)

abbrev pub straight_words : Bases → List Instr → (ℕ → ℕ) → Words → Words
straight_words b [] regs w = w
straight_words b (i ∷ is) regs w =
    straight_words b is (regs_after b i regs w) (words_after b i regs w)
