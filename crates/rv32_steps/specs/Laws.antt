-- What the machine does with the code of a compiler.
use Rattle.std.specs.Prelude.{◌≡◌, ℕ, ℤ, pos, ◌+◌, ◌*◌, ◌%◌, ◌^◌, ◌<◌, List, [], ◌∷◌, ◌++◌, length, replicate, Some, true, false}
use Rattle.rv32_isa.specs.declared.instr.Instr.{Instr}
use Rattle.rv32_isa.specs.declared.instr.Instr.TheVariants.{Jal, Jalr, Branch, Ecall}
use Rattle.rv32_isa.specs.declared.instr.BranchKind.{BranchKind}
use Rattle.rv32_machine.specs.declared.memory.Right.TheVariants.{Read, Write}
use Rattle.rv32_machine.specs.declared.memory.Access.TheVariants.{At}
use Rattle.rv32_machine.specs.Memory.{Stretch, end_of, access, bytes_at, bytes_of, stored_at}
use Rattle.rv32_machine.specs.Arithmetic.{plus, pattern, is_taken}
use Rattle.rv32_machine.specs.Steps.{State, Next, Written, Asked, act, given, set_reg}
use Rattle.rv32_steps.specs.Leads.{at, StepsTo, StepsToOnInput, ExitsOn}
use Rattle.rv32_steps.specs.Code.{code_bytes, AllInRange, InstructionIsAt, CodeIsAt}
use Rattle.rv32_steps.specs.Data.{words_bytes, AreWords, Bases, Words, memory_of, MemoryIsLaidOut, IsWord, word_at, with_word}
use Rattle.rv32_steps.specs.Straight.{register_value, InstructionIsAllowed, regs_after, words_after, InstructionsAreAllowed, straight_regs, straight_words}

-- stretches of a run join
abbrev pub StepsCompose : Type 0
StepsCompose =
    (j k : ℕ) (input middle left : List ℕ) (s t u : State) (v w : List ℕ)
    → StepsToOnInput j input s v middle t → StepsToOnInput k middle t w left u
    → StepsToOnInput (j + k) input s (v ++ w) left u

-- what reads no byte is a stretch on every input
abbrev pub SilentStepsKeepInput : Type 0
SilentStepsKeepInput =
    (k : ℕ) (input : List ℕ) (s t : State) (v : List ℕ) → StepsTo k s v t
    → StepsToOnInput k input s v input t

-- a segment of the words of instructions has these instructions, one each four bytes
abbrev pub SegmentHoldsCode : Type 0
SegmentHoldsCode =
    (c : Stretch) (is : List Instr)
    → c.exec ≡ true → c.bytes ≡ code_bytes is → c.first % 4 ≡ 0 → end_of c < 2 ^ 32 → AllInRange is
    → CodeIsAt c c.first is

-- an instruction of straight-line code changes registers and words as `regs_after` and
-- `words_after` say, wherever it stands
abbrev pub InstructionsChangeState : Type 0
InstructionsChangeState =
    (c : Stretch) (b : Bases) (rest : List Stretch) (i : Instr) (regs : ℕ → ℕ) (pc : ℕ) (w : Words)
    → MemoryIsLaidOut c b w → InstructionIsAllowed b i regs w
    → (act (at regs pc (memory_of c b w rest)) i
    ≡ Next (at (regs_after b i regs w) (plus pc 4) (memory_of c b (words_after b i regs w) rest)))
    × MemoryIsLaidOut c b (words_after b i regs w)

-- straight-line code is done to its end, one step each instruction
abbrev pub StraightCodeRuns : Type 0
StraightCodeRuns =
    (c : Stretch) (b : Bases) (rest : List Stretch) (is : List Instr)
    (pc : ℕ) (regs : ℕ → ℕ) (w : Words)
    → MemoryIsLaidOut c b w → CodeIsAt c pc is → InstructionsAreAllowed b is regs w
    → StepsTo (length is) (at regs pc (memory_of c b w rest)) [] (at (straight_regs b is regs w)
    (pc + 4 * length is) (memory_of c b (straight_words b is regs w) rest))

-- jumps, and branches by their test, go where their offset says
abbrev pub JumpsReachTargets : Type 0
JumpsReachTargets =
    (c : Stretch) (pc : ℕ) (regs : ℕ → ℕ) (rest : List Stretch) (rd : ℕ) (off : ℤ) (to : ℕ)
    → InstructionIsAt c pc (Jal rd off) → plus pc (pattern off) ≡ to → to % 4 ≡ 0
    → StepsTo 1 (at regs pc (c ∷ rest)) [] (at (set_reg regs rd (pc + 4)) to (c ∷ rest))

abbrev pub ReturnsGoBack : Type 0
ReturnsGoBack =
    (c : Stretch) (pc : ℕ) (regs : ℕ → ℕ) (rest : List Stretch) (rd rs1 to : ℕ)
    → InstructionIsAt c pc (Jalr rd rs1 (pos 0)) → register_value regs rs1 ≡ to
    → to % 4 ≡ 0 → to < 2 ^ 32
    → StepsTo 1 (at regs pc (c ∷ rest)) [] (at (set_reg regs rd (pc + 4)) to (c ∷ rest))

abbrev pub TakenBranchesJump : Type 0
TakenBranchesJump =
    (c : Stretch) (pc : ℕ) (regs : ℕ → ℕ) (rest : List Stretch)
    (kind : BranchKind) (rs1 rs2 : ℕ) (off : ℤ) (to : ℕ)
    → InstructionIsAt c pc (Branch kind rs1 rs2 off)
    → is_taken kind (register_value regs rs1) (register_value regs rs2) ≡ true
    → plus pc (pattern off) ≡ to → to % 4 ≡ 0
    → StepsTo 1 (at regs pc (c ∷ rest)) [] (at regs to (c ∷ rest))

abbrev pub UntakenBranchesFallThrough : Type 0
UntakenBranchesFallThrough =
    (c : Stretch) (pc : ℕ) (regs : ℕ → ℕ) (rest : List Stretch)
    (kind : BranchKind) (rs1 rs2 : ℕ) (off : ℤ)
    → InstructionIsAt c pc (Branch kind rs1 rs2 off)
    → is_taken kind (register_value regs rs1) (register_value regs rs2) ≡ false
    → StepsTo 1 (at regs pc (c ∷ rest)) [] (at regs (pc + 4) (c ∷ rest))

-- the file, the address and the length of a call, behind its number
pub record HasCallRegisters (number file address len : ℕ) (regs : ℕ → ℕ) : Type 0 where
  pub number_is : regs 17 ≡ number
  pub file_is : regs 10 ≡ file
  pub address_is : regs 11 ≡ address
  pub len_is : regs 12 ≡ len

-- ---- calls of one byte, which stands in a word

-- a write call of one byte writes the low byte of the word at its address
abbrev pub BytesAreWritten : Type 0
BytesAreWritten =
    (c : Stretch) (b : Bases) (rest : List Stretch) (regs : ℕ → ℕ) (pc : ℕ) (w : Words) (a : ℕ)
    → MemoryIsLaidOut c b w → IsWord b w a → HasCallRegisters 64 1 a 1 regs
    → act (at regs pc (memory_of c b w rest)) Ecall
    ≡ Written a 1 (word_at b w a % 256 ∷ [])
    (at (set_reg regs 10 1) (plus pc 4) (memory_of c b w rest))

-- a read call of one byte asks for it; a word that was zero becomes the byte, and at the input's
-- end it stays zero
abbrev pub ReadCallsAskForBytes : Type 0
ReadCallsAskForBytes =
    (c : Stretch) (b : Bases) (rest : List Stretch) (regs : ℕ → ℕ) (pc : ℕ) (w : Words) (a : ℕ)
    → MemoryIsLaidOut c b w → IsWord b w a → HasCallRegisters 63 0 a 1 regs
    → act (at regs pc (memory_of c b w rest)) Ecall ≡ Asked a

abbrev pub ReadBytesFillWords : Type 0
ReadBytesFillWords =
    (c : Stretch) (b : Bases) (rest : List Stretch) (regs : ℕ → ℕ) (pc : ℕ) (w : Words) (a byte : ℕ)
    → MemoryIsLaidOut c b w → IsWord b w a → word_at b w a ≡ 0 → byte < 256 → regs 11 ≡ a
    → (given (at regs pc (memory_of c b w rest)) (Some byte)
    ≡ at (set_reg regs 10 1) (plus pc 4) (memory_of c b (with_word b w a byte) rest))
    × MemoryIsLaidOut c b (with_word b w a byte)

-- segments of zeros are words of zero
abbrev pub ZerosAreWords : Type 0
ZerosAreWords =
    (n : ℕ) → (words_bytes (replicate n 0) ≡ replicate (4 * n) 0) × AreWords (replicate n 0)

-- a write call writes the bytes at its range
abbrev pub WriteCallsWrite : Type 0
WriteCallsWrite =
    (c : Stretch) (pc : ℕ) (regs : ℕ → ℕ) (rest : List Stretch)
    (a len segment offset : ℕ) (input : List ℕ)
    → InstructionIsAt c pc Ecall → HasCallRegisters 64 1 a len regs → 0 < len
    → access Read (c ∷ rest) a len ≡ At segment offset
    → StepsToOnInput 1 input (at regs pc (c ∷ rest)) (bytes_at (c ∷ rest) segment offset len)
    input (at (set_reg regs 10 len) (pc + 4) (c ∷ rest))

-- a read call of one byte takes it, and tells the input's end
abbrev pub ReadCallsTake : Type 0
ReadCallsTake =
    (c : Stretch) (pc : ℕ) (regs : ℕ → ℕ) (rest : List Stretch)
    (a segment offset byte : ℕ) (input : List ℕ)
    → InstructionIsAt c pc Ecall → HasCallRegisters 63 0 a 1 regs
    → access Write (c ∷ rest) a 1 ≡ At segment offset
    → StepsToOnInput 1 (byte ∷ input) (at regs pc (c ∷ rest)) [] input
    (at (set_reg regs 10 1) (pc + 4) (stored_at (c ∷ rest) segment offset (bytes_of 1 byte)))

abbrev pub ReadCallsEnd : Type 0
ReadCallsEnd =
    (c : Stretch) (pc : ℕ) (regs : ℕ → ℕ) (rest : List Stretch) (a segment offset : ℕ)
    → InstructionIsAt c pc Ecall → HasCallRegisters 63 0 a 1 regs
    → access Write (c ∷ rest) a 1 ≡ At segment offset
    → StepsToOnInput 1 [] (at regs pc (c ∷ rest)) [] [] (at (set_reg regs 10 0) (pc + 4) (c ∷ rest))

-- an exit call ends the run
abbrev pub ExitCallsEnd : Type 0
ExitCallsEnd =
    (c : Stretch) (pc : ℕ) (regs : ℕ → ℕ) (rest : List Stretch) (input : List ℕ)
    → InstructionIsAt c pc Ecall → regs 17 ≡ 93
    → ExitsOn 1 input (at regs pc (c ∷ rest)) [] input (regs 10) (at regs pc (c ∷ rest))
