-- The text of an instruction: its name, and its operands in decimal, the target register first.
use Rattle.std.specs.Prelude.{ℕ, List, ◌++◌, codes, decimal}
use Rattle.std.specs.Fmt.{signed_decimal}
use Rattle.std.specs.Prelude.{ℤ}
use Rattle.rv32_isa.specs.declared.instr.BranchKind.{BranchKind}
use Rattle.rv32_isa.specs.declared.instr.BranchKind.TheVariants.{Beq, Bne, Blt, Bge, Bltu, Bgeu}
use Rattle.rv32_isa.specs.declared.instr.LoadKind.{LoadKind}
use Rattle.rv32_isa.specs.declared.instr.LoadKind.TheVariants.{Lb, Lh, Lw, Lbu, Lhu}
use Rattle.rv32_isa.specs.declared.instr.StoreKind.{StoreKind}
use Rattle.rv32_isa.specs.declared.instr.StoreKind.TheVariants.{Sb, Sh, Sw}
use Rattle.rv32_isa.specs.declared.instr.ImmKind.{ImmKind}
use Rattle.rv32_isa.specs.declared.instr.ImmKind.TheVariants.{Addi, Slti, Sltiu, Xori, Ori, Andi}
use Rattle.rv32_isa.specs.declared.instr.ShiftKind.{ShiftKind}
use Rattle.rv32_isa.specs.declared.instr.ShiftKind.TheVariants.{Slli, Srli, Srai}
use Rattle.rv32_isa.specs.declared.instr.OpKind.{OpKind}
use Rattle.rv32_isa.specs.declared.instr.OpKind.TheVariants.{Add, Sll, Slt, Sltu, Xor, Srl, Or, And, Sub, Sra, Mul, Mulh, Mulhsu, Mulhu, Div, Divu, Rem, Remu}
use Rattle.rv32_isa.specs.declared.instr.Instr.{Instr}
use Rattle.rv32_isa.specs.declared.instr.Instr.TheVariants.{Lui, Auipc, Jal, Jalr, Branch, Load, Store, OpImm, Shift, Op, Fence, Ecall, Ebreak}

abbrev pub branch_name : BranchKind → List ℕ
branch_name Beq = codes "beq"
branch_name Bne = codes "bne"
branch_name Blt = codes "blt"
branch_name Bge = codes "bge"
branch_name Bltu = codes "bltu"
branch_name Bgeu = codes "bgeu"

abbrev pub load_name : LoadKind → List ℕ
load_name Lb = codes "lb"
load_name Lh = codes "lh"
load_name Lw = codes "lw"
load_name Lbu = codes "lbu"
load_name Lhu = codes "lhu"

abbrev pub store_name : StoreKind → List ℕ
store_name Sb = codes "sb"
store_name Sh = codes "sh"
store_name Sw = codes "sw"

abbrev pub imm_name : ImmKind → List ℕ
imm_name Addi = codes "addi"
imm_name Slti = codes "slti"
imm_name Sltiu = codes "sltiu"
imm_name Xori = codes "xori"
imm_name Ori = codes "ori"
imm_name Andi = codes "andi"

abbrev pub shift_name : ShiftKind → List ℕ
shift_name Slli = codes "slli"
shift_name Srli = codes "srli"
shift_name Srai = codes "srai"

abbrev pub op_name : OpKind → List ℕ
op_name Add = codes "add"
op_name Sll = codes "sll"
op_name Slt = codes "slt"
op_name Sltu = codes "sltu"
op_name Xor = codes "xor"
op_name Srl = codes "srl"
op_name Or = codes "or"
op_name And = codes "and"
op_name Sub = codes "sub"
op_name Sra = codes "sra"
op_name Mul = codes "mul"
op_name Mulh = codes "mulh"
op_name Mulhsu = codes "mulhsu"
op_name Mulhu = codes "mulhu"
op_name Div = codes "div"
op_name Divu = codes "divu"
op_name Rem = codes "rem"
op_name Remu = codes "remu"

-- a register, as `x10`
abbrev pub register : ℕ → List ℕ
register r = codes "x" ++ decimal r

-- a place in memory, as `8(x2)`
abbrev pub offset_operand : ℤ → ℕ → List ℕ
offset_operand offset base = signed_decimal offset ++ codes "(" ++ register base ++ codes ")"

abbrev pub two : (name a b : List ℕ) → List ℕ
two name a b = name ++ codes " " ++ a ++ codes ", " ++ b

abbrev pub three : (name a b c : List ℕ) → List ℕ
three name a b c = two name a b ++ codes ", " ++ c

unfoldable pub assembly_text : Instr → List ℕ
assembly_text (Lui rd imm) = two (codes "lui") (register rd) (decimal imm)
assembly_text (Auipc rd imm) = two (codes "auipc") (register rd) (decimal imm)
assembly_text (Jal rd off) = two (codes "jal") (register rd) (signed_decimal off)
assembly_text (Jalr rd rs1 imm) = two (codes "jalr") (register rd) (offset_operand imm rs1)
assembly_text (Branch kind rs1 rs2 off) =
    three (branch_name kind) (register rs1) (register rs2) (signed_decimal off)
assembly_text (Load kind rd rs1 imm) = two (load_name kind) (register rd) (offset_operand imm rs1)
assembly_text (Store kind rs2 rs1 imm) =
    two (store_name kind) (register rs2) (offset_operand imm rs1)
assembly_text (OpImm kind rd rs1 imm) =
    three (imm_name kind) (register rd) (register rs1) (signed_decimal imm)
assembly_text (Shift kind rd rs1 amount) =
    three (shift_name kind) (register rd) (register rs1) (decimal amount)
assembly_text (Op kind rd rs1 rs2) =
    three (op_name kind) (register rd) (register rs1) (register rs2)
assembly_text (Fence top rs1 rd) = three (codes "fence") (decimal top) (register rs1) (register rd)
assembly_text Ecall = codes "ecall"
assembly_text Ebreak = codes "ebreak"
