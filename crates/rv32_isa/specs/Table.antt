-- The words of the instructions of RV32IM, and what a word stands for: the instruction formats, the
-- variants of immediates and the instruction listings of the RISC-V Unprivileged ISA manual.
use Rattle.std.specs.Prelude.{ℕ, ℤ, ◌+◌, ◌*◌, ◌/◌, ◌%◌, ◌<◌, nat_eq, ◌&&◌, if◌then◌else◌, Option, Some, None}
use Rattle.rv32_isa.specs.declared.instr.BranchKind.{BranchKind}
use Rattle.rv32_isa.specs.declared.instr.BranchKind.TheVariants.{Beq, Bne, Blt, Bge, Bltu, Bgeu}
use Rattle.rv32_isa.specs.declared.instr.LoadKind.{LoadKind}
use Rattle.rv32_isa.specs.declared.instr.LoadKind.TheVariants.{Lb, Lh, Lw, Lbu, Lhu}
use Rattle.rv32_isa.specs.declared.instr.StoreKind.{StoreKind}
use Rattle.rv32_isa.specs.declared.instr.StoreKind.TheVariants.{Sb, Sh, Sw}
use Rattle.rv32_isa.specs.declared.instr.ImmKind.{ImmKind}
use Rattle.rv32_isa.specs.declared.instr.ImmKind.TheVariants.{Addi, Slti, Sltiu, Xori, Ori, Andi}
use Rattle.rv32_isa.specs.declared.instr.ShiftKind.{ShiftKind}
use Rattle.rv32_isa.specs.declared.instr.ShiftKind.TheVariants.{Slli, Srli, Srai}
use Rattle.rv32_isa.specs.declared.instr.OpKind.{OpKind}
use Rattle.rv32_isa.specs.declared.instr.OpKind.TheVariants.{Add, Sll, Slt, Sltu, Xor, Srl, Or, And, Sub, Sra, Mul, Mulh, Mulhsu, Mulhu, Div, Divu, Rem, Remu}
use Rattle.rv32_isa.specs.declared.instr.Instr.{Instr}
use Rattle.rv32_isa.specs.declared.instr.Instr.TheVariants.{Lui, Auipc, Jal, Jalr, Branch, Load, Store, OpImm, Shift, Op, Fence, Ecall, Ebreak}
use Rattle.rv32_isa.specs.Bits.{unsigned_part, signed_part, IsImm12, IsOffB, IsOffJ}

-- the six fields of a word, from the lowest bits up: 7, 5, 3, 5, 5 and 7 bits
unfoldable pub word_with : (opcode rd funct3 rs1 rs2 funct7 : ℕ) → ℕ
word_with opcode rd funct3 rs1 rs2 funct7 =
    opcode + 128 * (rd + 32 * (funct3 + 8 * (rs1 + 32 * (rs2 + 32 * funct7))))

abbrev pub branch_funct3 : BranchKind → ℕ
branch_funct3 Beq = 0
branch_funct3 Bne = 1
branch_funct3 Blt = 4
branch_funct3 Bge = 5
branch_funct3 Bltu = 6
branch_funct3 Bgeu = 7

abbrev pub load_funct3 : LoadKind → ℕ
load_funct3 Lb = 0
load_funct3 Lh = 1
load_funct3 Lw = 2
load_funct3 Lbu = 4
load_funct3 Lhu = 5

abbrev pub store_funct3 : StoreKind → ℕ
store_funct3 Sb = 0
store_funct3 Sh = 1
store_funct3 Sw = 2

abbrev pub imm_funct3 : ImmKind → ℕ
imm_funct3 Addi = 0
imm_funct3 Slti = 2
imm_funct3 Sltiu = 3
imm_funct3 Xori = 4
imm_funct3 Ori = 6
imm_funct3 Andi = 7

abbrev pub shift_funct3 : ShiftKind → ℕ
shift_funct3 Slli = 1
shift_funct3 Srli = 5
shift_funct3 Srai = 5

abbrev pub shift_funct7 : ShiftKind → ℕ
shift_funct7 Slli = 0
shift_funct7 Srli = 0
shift_funct7 Srai = 0x20

abbrev pub op_funct3 : OpKind → ℕ
op_funct3 Add = 0
op_funct3 Sll = 1
op_funct3 Slt = 2
op_funct3 Sltu = 3
op_funct3 Xor = 4
op_funct3 Srl = 5
op_funct3 Or = 6
op_funct3 And = 7
op_funct3 Sub = 0
op_funct3 Sra = 5
op_funct3 Mul = 0
op_funct3 Mulh = 1
op_funct3 Mulhsu = 2
op_funct3 Mulhu = 3
op_funct3 Div = 4
op_funct3 Divu = 5
op_funct3 Rem = 6
op_funct3 Remu = 7

abbrev pub op_funct7 : OpKind → ℕ
op_funct7 Add = 0
op_funct7 Sll = 0
op_funct7 Slt = 0
op_funct7 Sltu = 0
op_funct7 Xor = 0
op_funct7 Srl = 0
op_funct7 Or = 0
op_funct7 And = 0
op_funct7 Sub = 0x20
op_funct7 Sra = 0x20
op_funct7 Mul = 1
op_funct7 Mulh = 1
op_funct7 Mulhsu = 1
op_funct7 Mulhu = 1
op_funct7 Div = 1
op_funct7 Divu = 1
op_funct7 Rem = 1
op_funct7 Remu = 1

-- a word whose upper 20 bits are one number
abbrev pub word_upper : (opcode rd upper : ℕ) → ℕ
word_upper opcode rd upper =
    word_with opcode rd (upper % 8) (upper / 8 % 32) (upper / 256 % 32) (upper / 8192)

-- a word whose upper 12 bits are one number
abbrev pub word_imm : (opcode rd funct3 rs1 upper : ℕ) → ℕ
word_imm opcode rd funct3 rs1 upper = word_with opcode rd funct3 rs1 (upper % 32) (upper / 32)

-- the upper 20 bits of a jump: bits 20, 10 to 1, 11 and 19 to 12 of the offset, from the highest
-- down
abbrev pub jump_bits : ℕ → ℕ
jump_bits u = u / 4096 % 256 + 256 * (u / 2048 % 2 + 2 * (u / 2 % 1024 + 1024 * (u / 1048576)))

abbrev pub word_of : Instr → ℕ
word_of (Lui rd imm) = word_upper 0x37 rd imm
word_of (Auipc rd imm) = word_upper 0x17 rd imm
word_of (Jal rd off) = word_upper 0x6F rd (jump_bits (unsigned_part 2097152 off))
word_of (Jalr rd rs1 imm) = word_imm 0x67 rd 0 rs1 (unsigned_part 4096 imm)
word_of (Branch kind rs1 rs2 off) =
    let u = unsigned_part 8192 off in
    word_with 0x63 (u / 2048 % 2 + 2 * (u / 2 % 16)) (branch_funct3 kind)
    rs1 rs2 (u / 32 % 64 + 64 * (u / 4096))
word_of (Load kind rd rs1 imm) = word_imm 0x03 rd (load_funct3 kind) rs1 (unsigned_part 4096 imm)
word_of (Store kind rs2 rs1 imm) =
    let u = unsigned_part 4096 imm in
    word_with 0x23 (u % 32) (store_funct3 kind) rs1 rs2 (u / 32)
word_of (OpImm kind rd rs1 imm) = word_imm 0x13 rd (imm_funct3 kind) rs1 (unsigned_part 4096 imm)
word_of (Shift kind rd rs1 amount) =
    word_with 0x13 rd (shift_funct3 kind) rs1 amount (shift_funct7 kind)
word_of (Op kind rd rs1 rs2) = word_with 0x33 rd (op_funct3 kind) rs1 rs2 (op_funct7 kind)
word_of (Fence top rs1 rd) = word_imm 0x0F rd 0 rs1 top
word_of Ecall = 0x00000073
word_of Ebreak = 0x00100073

-- the numbers of an instruction are in their ranges
abbrev pub InRange : Instr → Type 0
InRange (Lui rd imm) = (rd < 32) × (imm < 1048576)
InRange (Auipc rd imm) = (rd < 32) × (imm < 1048576)
InRange (Jal rd off) = (rd < 32) × IsOffJ off
InRange (Jalr rd rs1 imm) = (rd < 32) × (rs1 < 32) × IsImm12 imm
InRange (Branch kind rs1 rs2 off) = (rs1 < 32) × (rs2 < 32) × IsOffB off
InRange (Load kind rd rs1 imm) = (rd < 32) × (rs1 < 32) × IsImm12 imm
InRange (Store kind rs2 rs1 imm) = (rs2 < 32) × (rs1 < 32) × IsImm12 imm
InRange (OpImm kind rd rs1 imm) = (rd < 32) × (rs1 < 32) × IsImm12 imm
InRange (Shift kind rd rs1 amount) = (rd < 32) × (rs1 < 32) × (amount < 32)
InRange (Op kind rd rs1 rs2) = (rd < 32) × (rs1 < 32) × (rs2 < 32)
InRange (Fence top rs1 rd) = (top < 4096) × (rs1 < 32) × (rd < 32)
InRange Ecall = Unit {0}
InRange Ebreak = Unit {0}

-- ---- the other way: what the fields of a word stand for

abbrev pub map_some : {A B : Type 0} → (A → B) → Option A → Option B
map_some f None = None
map_some f (Some x) = Some (f x)

unfoldable pub branch_kind : ℕ → Option BranchKind
branch_kind f =
    if nat_eq f 0 then Some Beq else if nat_eq f 1 then Some Bne else if nat_eq f 4 then Some Blt
    else if nat_eq f 5 then Some Bge else if nat_eq f 6 then Some Bltu
    else if nat_eq f 7 then Some Bgeu else None

unfoldable pub load_kind : ℕ → Option LoadKind
load_kind f =
    if nat_eq f 0 then Some Lb else if nat_eq f 1 then Some Lh else if nat_eq f 2 then Some Lw
    else if nat_eq f 4 then Some Lbu else if nat_eq f 5 then Some Lhu else None

unfoldable pub store_kind : ℕ → Option StoreKind
store_kind f =
    if nat_eq f 0 then Some Sb else if nat_eq f 1 then Some Sh
    else if nat_eq f 2 then Some Sw else None

unfoldable pub imm_kind : ℕ → Option ImmKind
imm_kind f =
    if nat_eq f 0 then Some Addi else if nat_eq f 2 then Some Slti
    else if nat_eq f 3 then Some Sltiu else if nat_eq f 4 then Some Xori
    else if nat_eq f 6 then Some Ori else if nat_eq f 7 then Some Andi else None

unfoldable pub shift_kind : ℕ → ℕ → Option ShiftKind
shift_kind f3 f7 =
    if nat_eq f3 1 then (if nat_eq f7 0 then Some Slli else None)
    else if nat_eq f3 5
    then (if nat_eq f7 0 then Some Srli else if nat_eq f7 0x20 then Some Srai else None)
    else None

unfoldable pub op_kind : ℕ → ℕ → Option OpKind
op_kind f3 f7 =
    if nat_eq f7 0 then
    (if nat_eq f3 0 then Some Add else if nat_eq f3 1 then Some Sll
    else if nat_eq f3 2 then Some Slt else if nat_eq f3 3 then Some Sltu
    else if nat_eq f3 4 then Some Xor else if nat_eq f3 5 then Some Srl
    else if nat_eq f3 6 then Some Or else if nat_eq f3 7 then Some And else None)
    else if nat_eq f7 0x20
    then (if nat_eq f3 0 then Some Sub else if nat_eq f3 5 then Some Sra else None)
    else if nat_eq f7 1 then
    (if nat_eq f3 0 then Some Mul else if nat_eq f3 1 then Some Mulh
    else if nat_eq f3 2 then Some Mulhsu else if nat_eq f3 3 then Some Mulhu
    else if nat_eq f3 4 then Some Div else if nat_eq f3 5 then Some Divu
    else if nat_eq f3 6 then Some Rem else if nat_eq f3 7 then Some Remu else None)
    else None

-- the offset of a jump, of which u is the upper 20 bits of the word
abbrev pub jump_offset : ℕ → ℤ
jump_offset u =
    signed_part 2097152
    (2 * (u / 512 % 1024) + 2048 * (u / 256 % 2) + 4096 * (u % 256) + 1048576 * (u / 524288))

abbrev pub branch_offset : (rd funct7 : ℕ) → ℤ
branch_offset rd funct7 =
    signed_part 8192 (2 * (rd / 2) + 32 * (funct7 % 64) + 2048 * (rd % 2) + 4096 * (funct7 / 64))

unfoldable pub instr_with : (opcode rd funct3 rs1 rs2 funct7 : ℕ) → Option Instr
instr_with opcode rd funct3 rs1 rs2 funct7 =
    let upper = funct3 + 8 * (rs1 + 32 * (rs2 + 32 * funct7)) in
    let imm = signed_part 4096 (rs2 + 32 * funct7) in
    if nat_eq opcode 0x37 then Some (Lui rd upper)
    else if nat_eq opcode 0x17 then Some (Auipc rd upper)
    else if nat_eq opcode 0x6F then Some (Jal rd (jump_offset upper))
    else if nat_eq opcode 0x67 then (if nat_eq funct3 0 then Some (Jalr rd rs1 imm) else None)
    else if nat_eq opcode 0x63
    then map_some (λ kind. Branch kind rs1 rs2 (branch_offset rd funct7)) (branch_kind funct3)
    else if nat_eq opcode 0x03 then map_some (λ kind. Load kind rd rs1 imm) (load_kind funct3)
    else if nat_eq opcode 0x23 then map_some (λ kind.
    Store kind rs2 rs1 (signed_part 4096 (rd + 32 * funct7))) (store_kind funct3)
    else if nat_eq opcode 0x13 then
    (if nat_eq (funct3 % 4) 1
    then map_some (λ kind. Shift kind rd rs1 rs2) (shift_kind funct3 funct7)
    else map_some (λ kind. OpImm kind rd rs1 imm) (imm_kind funct3))
    else if nat_eq opcode 0x33 then map_some (λ kind. Op kind rd rs1 rs2) (op_kind funct3 funct7)
    else if nat_eq opcode 0x0F
    then (if nat_eq funct3 0 then Some (Fence (rs2 + 32 * funct7) rs1 rd) else None)
    else if nat_eq opcode 0x73 then
    (if nat_eq rd 0 && nat_eq funct3 0 && nat_eq rs1 0 && nat_eq funct7 0 then
    (if nat_eq rs2 0 then Some Ecall else if nat_eq rs2 1 then Some Ebreak else None)
    else None)
    else None

unfoldable pub instr_of : ℕ → Option Instr
instr_of w =
    instr_with (w % 128) (w / 128 % 32) (w / 4096 % 8) (w / 32768 % 32)
    (w / 1048576 % 32) (w / 33554432)
