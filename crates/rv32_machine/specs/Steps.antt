-- What one instruction does. Source of the instructions: the RISC-V unprivileged manual, chapter
-- RV32I and the chapter on the extension M. The traps, and the calls behind ECALL, are this
-- machine's own.
use Rattle.std.specs.Prelude.{ℕ, ◌-◌, ◌*◌, ◌/◌, ◌%◌, ◌^◌, List, [], Bool, true, false, nat_eq, if◌then◌else◌, Option, Some, None, slice_index, ◌≡◌, map}
use Rattle.elf32.specs.Image.{Image}
use Rattle.rv32_isa.specs.declared.instr.Instr.{Instr}
use Rattle.rv32_isa.specs.declared.instr.Instr.TheVariants.{Lui, Auipc, Jal, Jalr, Branch, Load, Store, OpImm, Shift, Op, Fence, Ecall, Ebreak}
use Rattle.rv32_isa.specs.Table.{instr_of}
use Rattle.rv32_machine.specs.declared.memory.Right.TheVariants.{Read, Write, Execute}
use Rattle.rv32_machine.specs.declared.memory.Access.{Access}
use Rattle.rv32_machine.specs.declared.memory.Access.TheVariants.{At, Outside}
use Rattle.rv32_machine.specs.declared.machine.StepResult.{StepResult}
use Rattle.rv32_machine.specs.declared.machine.StepResult.TheVariants.{Next as Next', Read as Read', Write as Write', Exit, Trap}
use Rattle.rv32_machine.specs.declared.machine.TrapKind.{TrapKind}
use Rattle.rv32_machine.specs.declared.machine.TrapKind.TheVariants.{IllegalInstruction, MisalignedJump, MisalignedAccess, AccessOutside, UnknownCall, Breakpoint}
use Rattle.rv32_machine.specs.Memory.{Stretch, stretch_of, range_bytes, access, bytes_of, little_endian, bytes_at, stored_at, stored_to}
use Rattle.rv32_machine.specs.Arithmetic.{pattern, plus, op_value, imm_value, shift_value, is_taken, load_size, load_value, store_size}

-- the registers, the address of the next instruction, and memory
pub record State : Type 0 where
  pub regs : ℕ → ℕ
  pub pc : ℕ
  pub memory : List Stretch

-- all registers are zero at the start, and memory has the program's segments
abbrev pub start_of : Image → State
start_of i = record { regs = λ _. 0; pc = i.entry; memory = map stretch_of i.segments }

-- x0 reads zero
abbrev pub reg : State → ℕ → ℕ
reg s r = if nat_eq r 0 then 0 else s.regs r

abbrev pub set_reg : (ℕ → ℕ) → ℕ → ℕ → ℕ → ℕ
set_reg regs r v q = if nat_eq q r then v else regs q

-- what an instruction does: it goes on, also with bytes written, asks for a byte of the input, ends
-- the program, or traps
pub data Outcome : Type 0 where
  Next : State → Outcome
  Written : (address len : ℕ) → List ℕ → State → Outcome
  Asked : (address : ℕ) → Outcome
  Ended : ℕ → Outcome
  Trapped : TrapKind → Outcome

abbrev pub go_to : State → ℕ → State
go_to s pc = record { regs = s.regs; pc = pc; memory = s.memory }

abbrev pub with_reg : State → (r v pc : ℕ) → State
with_reg s r v pc = record { regs = set_reg s.regs r v; pc = pc; memory = s.memory }

abbrev pub next_pc : State → ℕ
next_pc s = plus s.pc 4

-- the value into the register, and on to the next instruction
abbrev pub put : State → (r v : ℕ) → Outcome
put s r v = Next (with_reg s r v (next_pc s))

-- a jump goes to a multiple of four
abbrev pub jump : ℕ → Outcome → Outcome
jump target then_next = if nat_eq (target % 4) 0 then then_next else Trapped MisalignedJump

abbrev pub loaded : State → (r : ℕ) → (ℕ → ℕ) → (len : ℕ) → Access → Outcome
loaded s r value len (Outside a) = Trapped (AccessOutside a)
loaded s r value len (At n offset) =
    put s r (value (little_endian (bytes_at s.memory n offset len)))

abbrev pub load : State → (r : ℕ) → (ℕ → ℕ) → (len address : ℕ) → Outcome
load s r value len address =
    if nat_eq (address % len) 0 then loaded s r value len (access Read s.memory address len)
    else Trapped (MisalignedAccess address)

abbrev pub stored : State → List ℕ → Access → Outcome
stored s bytes (Outside a) = Trapped (AccessOutside a)
stored s bytes (At n offset) =
    Next (record { regs = s.regs; pc = next_pc s; memory = stored_at s.memory n offset bytes })

abbrev pub store : State → (v len address : ℕ) → Outcome
store s v len address =
    if nat_eq (address % len) 0 then stored s (bytes_of len v) (access Write s.memory address len)
    else Trapped (MisalignedAccess address)

-- the number of the calls' files, by x10: the input is 0 and the output 1; another one is answered
-- by -9
abbrev pub no_file : ℕ
no_file = 2 ^ 32 - 9

-- all bytes are written, and their number is the answer in x10
abbrev pub written : State → (address len : ℕ) → List ℕ → Outcome
written s address len bytes = Written address len bytes (with_reg s 10 len (next_pc s))

abbrev pub write_from : State → (address len : ℕ) → Access → Outcome
write_from s address len (Outside a) = Trapped (AccessOutside a)
write_from s address len (At n offset) = written s address len (bytes_at s.memory n offset len)

abbrev pub write_call : State → (file address len : ℕ) → Outcome
write_call s file address len =
    if nat_eq file 1 then
    (if nat_eq len 0 then written s address 0 []
    else write_from s address len (access Read s.memory address len))
    else put s 10 no_file

-- one byte is asked for, whatever the length; the whole range has to be one that may be written
abbrev pub asked : (address : ℕ) → Access → Outcome
asked address (Outside a) = Trapped (AccessOutside a)
asked address (At n offset) = Asked address

abbrev pub read_call : State → (file address len : ℕ) → Outcome
read_call s file address len =
    if nat_eq file 0 then
    (if nat_eq len 0 then put s 10 0 else asked address (access Write s.memory address len))
    else put s 10 no_file

-- a read call is answered: the byte stands at the address in x11, and 1 in x10; at the input's end,
-- 0 in x10
abbrev pub given : State → Option ℕ → State
given s None = with_reg s 10 0 (next_pc s)
given s (Some byte) =
    record {
      regs = set_reg s.regs 10 1;
      pc = next_pc s;
      memory = stored_to s.memory (bytes_of 1 byte) (access Write s.memory (reg s 11) 1);
    }

-- the number of the call is in x17: exit with the code in x10, write and read with the file, the
-- address and the length in x10 to x12
abbrev pub call : State → Outcome
call s =
    if nat_eq (reg s 17) 93 then Ended (reg s 10)
    else if nat_eq (reg s 17) 64 then write_call s (reg s 10) (reg s 11) (reg s 12)
    else if nat_eq (reg s 17) 63 then read_call s (reg s 10) (reg s 11) (reg s 12)
    else Trapped (UnknownCall (reg s 17))

-- one instruction; a link is the address of the next instruction, and is written after the target
-- is computed
abbrev pub act : State → Instr → Outcome
act s (Lui rd imm) = put s rd (imm * 4096)
act s (Auipc rd imm) = put s rd (plus s.pc (imm * 4096))
act s (Jal rd off) =
    let target = plus s.pc (pattern off) in jump target (Next (with_reg s rd (next_pc s) target))
act s (Jalr rd rs1 imm) =
    let target = plus (reg s rs1) (pattern imm) / 2 * 2 in
    jump target (Next (with_reg s rd (next_pc s) target))
act s (Branch kind rs1 rs2 off) =
    let target = plus s.pc (pattern off) in
    if is_taken kind (reg s rs1) (reg s rs2) then jump target (Next (go_to s target))
    else Next (go_to s (next_pc s))
act s (Load kind rd rs1 imm) =
    load s rd (load_value kind) (load_size kind) (plus (reg s rs1) (pattern imm))
act s (Store kind rs2 rs1 imm) =
    store s (reg s rs2) (store_size kind) (plus (reg s rs1) (pattern imm))
act s (OpImm kind rd rs1 imm) = put s rd (imm_value kind (reg s rs1) (pattern imm))
act s (Shift kind rd rs1 amount) = put s rd (shift_value kind (reg s rs1) amount)
act s (Op kind rd rs1 rs2) = put s rd (op_value kind (reg s rs1) (reg s rs2))
act s (Fence top rs1 rd) = Next (go_to s (next_pc s))
act s Ecall = call s
act s Ebreak = Trapped Breakpoint

abbrev pub act_on : State → (word : ℕ) → Option Instr → Outcome
act_on s word None = Trapped (IllegalInstruction word)
act_on s word (Some i) = act s i

abbrev pub fetch_and_execute : State → Access → Outcome
fetch_and_execute s (Outside a) = Trapped (AccessOutside a)
fetch_and_execute s (At n offset) =
    let word = little_endian (bytes_at s.memory n offset 4) in act_on s word (instr_of word)

-- the instruction at pc
unfoldable pub step : State → Outcome
step s =
    if nat_eq (s.pc % 4) 0 then fetch_and_execute s (access Execute s.memory s.pc 4)
    else Trapped MisalignedJump

-- the machine as data: its registers as a list, whether its program is over, and whether a read
-- call waits for its answer
pub record Stand : Type 0 where
  pub regs : List ℕ
  pub pc : ℕ
  pub memory : List Stretch
  pub over : Bool
  pub waiting : Bool

abbrev pub state_of : Stand → State
state_of m = record { regs = λ r. slice_index m.regs r; pc = m.pc; memory = m.memory }

abbrev pub IsAt : Stand → State → (over waiting : Bool) → Type 0
IsAt m s over waiting = (state_of m ≡ s) × (m.over ≡ over) × (m.waiting ≡ waiting)

-- the machine did what the outcome says, and told it; a trap, an exit and an unanswered read call
-- leave the state
abbrev pub Does : (old : State) → Outcome → StepResult → (new : Stand) → Type 0
Does old (Next s) result new = (result ≡ Next') × IsAt new s false false
Does old (Written address len bytes s) result new =
    (result ≡ Write' address len) × IsAt new s false false
    × (range_bytes new.memory address len ≡ Some bytes)
Does old (Asked address) result new = (result ≡ Read' address) × IsAt new old false true
Does old (Ended code) result new = (result ≡ Exit code) × IsAt new old true false
Does old (Trapped kind) result new = (result ≡ Trap kind old.pc) × IsAt new old true false

-- the program has not ended, and no read call waits
abbrev pub IsRunning : Stand → Type 0
IsRunning m = (m.over ≡ false) × (m.waiting ≡ false)
