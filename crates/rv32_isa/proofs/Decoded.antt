-- An instruction's word decodes to the instruction.
use Rattle.std.proofs.Common.{◌≡◌, ℕ, ◌+◌, ◌*◌, ◌/◌, ◌%◌, ◌<◌, ◌^◌, refl, ap, ◌∙◌, arith, Some}
use Rattle.std.specs.Prelude.{ℤ, pos, negsuc}
use Rattle.std.proofs.lemmas.Bool.Decides.{nat_tests}
use Rattle.std.proofs.lemmas.Int.{ints}
use Rattle.rv32_isa.specs.declared.instr.BranchKind.{BranchKind}
use Rattle.rv32_isa.specs.declared.instr.BranchKind.TheVariants.{Beq, Bne, Blt, Bge, Bltu, Bgeu}
use Rattle.rv32_isa.specs.declared.instr.LoadKind.{LoadKind}
use Rattle.rv32_isa.specs.declared.instr.LoadKind.TheVariants.{Lb, Lh, Lw, Lbu, Lhu}
use Rattle.rv32_isa.specs.declared.instr.StoreKind.{StoreKind}
use Rattle.rv32_isa.specs.declared.instr.StoreKind.TheVariants.{Sb, Sh, Sw}
use Rattle.rv32_isa.specs.declared.instr.ImmKind.{ImmKind}
use Rattle.rv32_isa.specs.declared.instr.ImmKind.TheVariants.{Addi, Slti, Sltiu, Xori, Ori, Andi}
use Rattle.rv32_isa.specs.declared.instr.ShiftKind.{ShiftKind}
use Rattle.rv32_isa.specs.declared.instr.ShiftKind.TheVariants.{Slli, Srli, Srai}
use Rattle.rv32_isa.specs.declared.instr.OpKind.{OpKind}
use Rattle.rv32_isa.specs.declared.instr.OpKind.TheVariants.{Add, Sll, Slt, Sltu, Xor, Srl, Or, And, Sub, Sra, Mul, Mulh, Mulhsu, Mulhu, Div, Divu, Rem, Remu}
use Rattle.rv32_isa.specs.declared.instr.Instr.{Instr}
use Rattle.rv32_isa.specs.declared.instr.Instr.TheVariants.{Lui, Auipc, Jal, Jalr, Branch, Load, Store, OpImm, Shift, Op, Fence, Ecall, Ebreak}
use Rattle.rv32_isa.specs.Table.{word_with, instr_with, instr_of, word_of, InRange, branch_kind, load_kind, store_kind, imm_kind, shift_kind, op_kind, branch_funct3, load_funct3, store_funct3, imm_funct3, shift_funct3, shift_funct7, op_funct3, op_funct7, jump_bits, jump_offset, branch_offset, word_imm, word_upper, map_some}
use Rattle.rv32_isa.specs.Bits.{unsigned_part, signed_part, IsImm12, IsOffB, IsOffJ}
use Rattle.rv32_isa.proofs.Parts.{Ranges, of_fields}

branch_again : (k : BranchKind) → (branch_kind (branch_funct3 k) ≡ Some k) × (branch_funct3 k < 8)
unfolding branch_kind
branch_again Beq = (refl, omega arith)
branch_again Bne = (refl, omega arith)
branch_again Blt = (refl, omega arith)
branch_again Bge = (refl, omega arith)
branch_again Bltu = (refl, omega arith)
branch_again Bgeu = (refl, omega arith)

load_again : (k : LoadKind) → (load_kind (load_funct3 k) ≡ Some k) × (load_funct3 k < 8)
unfolding load_kind
load_again Lb = (refl, omega arith)
load_again Lh = (refl, omega arith)
load_again Lw = (refl, omega arith)
load_again Lbu = (refl, omega arith)
load_again Lhu = (refl, omega arith)

store_again : (k : StoreKind) → (store_kind (store_funct3 k) ≡ Some k) × (store_funct3 k < 8)
unfolding store_kind
store_again Sb = (refl, omega arith)
store_again Sh = (refl, omega arith)
store_again Sw = (refl, omega arith)

imm_again : (k : ImmKind) (rd rs1 rs2 funct7 : ℕ) →
    (instr_with 19 rd (imm_funct3 k) rs1 rs2 funct7 ≡ Some
    (OpImm k rd rs1 (signed_part 4096 (rs2 + 32 * funct7)))) × (imm_funct3 k < 8)
unfolding imm_kind instr_with
imm_again Addi d a b g = (refl, omega arith)
imm_again Slti d a b g = (refl, omega arith)
imm_again Sltiu d a b g = (refl, omega arith)
imm_again Xori d a b g = (refl, omega arith)
imm_again Ori d a b g = (refl, omega arith)
imm_again Andi d a b g = (refl, omega arith)

shift_again : (k : ShiftKind) (rd rs1 rs2 : ℕ) →
    (instr_with 19 rd (shift_funct3 k) rs1 rs2 (shift_funct7 k) ≡ Some (Shift k rd rs1 rs2))
    × (shift_funct3 k < 8) × (shift_funct7 k < 128)
unfolding shift_kind instr_with
shift_again Slli d a b = (refl, omega arith, omega arith)
shift_again Srli d a b = (refl, omega arith, omega arith)
shift_again Srai d a b = (refl, omega arith, omega arith)

op_again : (k : OpKind) → (op_kind (op_funct3 k) (op_funct7 k) ≡ Some k) × (op_funct3 k < 8)
    × (op_funct7 k < 128)
unfolding op_kind
op_again Add = (refl, omega arith, omega arith)
op_again Sll = (refl, omega arith, omega arith)
op_again Slt = (refl, omega arith, omega arith)
op_again Sltu = (refl, omega arith, omega arith)
op_again Xor = (refl, omega arith, omega arith)
op_again Srl = (refl, omega arith, omega arith)
op_again Or = (refl, omega arith, omega arith)
op_again And = (refl, omega arith, omega arith)
op_again Sub = (refl, omega arith, omega arith)
op_again Sra = (refl, omega arith, omega arith)
op_again Mul = (refl, omega arith, omega arith)
op_again Mulh = (refl, omega arith, omega arith)
op_again Mulhsu = (refl, omega arith, omega arith)
op_again Mulhu = (refl, omega arith, omega arith)
op_again Div = (refl, omega arith, omega arith)
op_again Divu = (refl, omega arith, omega arith)
op_again Rem = (refl, omega arith, omega arith)
op_again Remu = (refl, omega arith, omega arith)

again12 : (z : ℤ) → IsImm12 z → (signed_part 4096 (unsigned_part 4096 z) ≡ z)
    × (unsigned_part 4096 z < 4096)
again12 (pos n) h = let lt : n < 2048 = omega (arith, ints)
    in (grind (arith, nat_tests), omega arith)
again12 (negsuc n) h = let lt : n < 2048 = omega (arith, ints)
    in (grind (arith, nat_tests), omega arith)

again13 : (z : ℤ) → IsOffB z → (signed_part 8192 (unsigned_part 8192 z) ≡ z)
    × (unsigned_part 8192 z < 8192)
again13 (pos n) h = let lt : n < 4096 = omega (arith, ints)
    in (grind (arith, nat_tests), omega arith)
again13 (negsuc n) h = let lt : n < 4096 = omega (arith, ints)
    in (grind (arith, nat_tests), omega arith)

again21 : (z : ℤ) → IsOffJ z → (signed_part 2097152 (unsigned_part 2097152 z) ≡ z)
    × (unsigned_part 2097152 z < 2097152)
again21 (pos n) h = let lt : n < 1048576 = omega (arith, ints)
    in (grind (arith, nat_tests), omega arith)
again21 (negsuc n) h = let lt : n < 1048576 = omega (arith, ints)
    in (grind (arith, nat_tests), omega arith)

jump_again : (u : ℕ) → u < 2097152 → u % 2 ≡ 0 → let p = jump_bits u
    in (2 * (p / 512 % 1024) + 2048 * (p / 256 % 2) + 4096 * (p % 256) + 1048576 * (p / 524288) ≡ u)
    × (p < 1048576)
jump_again u h e = (omega arith, omega arith)

branch_bits : (u : ℕ) → u < 8192 → u % 2 ≡ 0 → let d = u / 2048 % 2 + 2 * (u / 2 % 16) in let g
    = u / 32 % 64 + 64 * (u / 4096) in
    (2 * (d / 2) + 32 * (g % 64) + 2048 * (d % 2) + 4096 * (g / 64) ≡ u) × (d < 32) × (g < 128)
branch_bits u h e = (omega arith, omega arith, omega arith)

upper_again : (u : ℕ) → u < 1048576 →
    (u % 8 + 8 * (u / 8 % 32 + 32 * (u / 256 % 32 + 32 * (u / 8192))) ≡ u) × (u / 8192 < 128)
upper_again u h = (omega arith, omega arith)

imm_word : (o d f a : ℕ) (u : ℕ) → o < 128 → d < 32 → f < 8 → a < 32 → u < 4096
    → instr_of (word_imm o d f a u) ≡ instr_with o d f a (u % 32) (u / 32)
imm_word o d f a u ho hd hf ha hu = of_fields o d f a (u % 32) (u / 32) (omega arith)

upper_word : (o d u : ℕ) → o < 128 → d < 32 → u < 1048576
    → instr_of (word_upper o d u) ≡ instr_with o d (u % 8) (u / 8 % 32) (u / 256 % 32) (u / 8192)
upper_word o d u ho hd hu = of_fields o d (u % 8) (u / 8 % 32) (u / 256 % 32) (u / 8192)
    (omega arith)

imm_back : (z : ℤ) → IsImm12 z →
    (let u = unsigned_part 4096 z in signed_part 4096 (u % 32 + 32 * (u / 32))) ≡ z
imm_back z h =
    let u = unsigned_part 4096 z in
    let e : u % 32 + 32 * (u / 32) ≡ u = omega arith in
    ap (signed_part 4096) e ∙ (again12 z h).0

pub decoded : (i : Instr) → InRange i → instr_of (word_of i) ≡ Some i
unfolding instr_with word_with
decoded (Lui rd imm) h = upper_word 55 rd imm (omega arith) h.0 h.1 ∙ ap (λ u. Some (Lui rd u))
    (upper_again imm h.1).0
decoded (Auipc rd imm) h = upper_word 23 rd imm (omega arith) h.0 h.1 ∙ ap (λ u. Some (Auipc rd u))
    (upper_again imm h.1).0
decoded (Jal rd off) h =
    let a = again21 off h.1 in
    let u = unsigned_part 2097152 off in
    let b = jump_again u a.1 h.1.2 in
    upper_word 111 rd (jump_bits u) (omega arith) h.0 b.1
    ∙ ap (λ p. Some (Jal rd (jump_offset p))) (upper_again (jump_bits u) b.1).0
    ∙ ap (λ v. Some (Jal rd (signed_part 2097152 v))) b.0
    ∙ ap (λ z. Some (Jal rd z)) a.0
decoded (Jalr rd rs1 imm) h =
    imm_word 103 rd 0 rs1 (unsigned_part 4096 imm) (omega arith) h.0 (omega arith) h.1
    (again12 imm h.2).1
    ∙ ap (λ z. Some (Jalr rd rs1 z)) (imm_back imm h.2)
decoded (Branch kind rs1 rs2 off) h =
    let a = again13 off h.2 in
    let u = unsigned_part 8192 off in
    let b = branch_bits u a.1 h.2.2 in
    let k = branch_again kind in
    let d = u / 2048 % 2 + 2 * (u / 2 % 16) in
    let g = u / 32 % 64 + 64 * (u / 4096) in
    of_fields 99 d (branch_funct3 kind) rs1 rs2 g
    (record {
      opcode = omega arith;
      rd = b.1;
      funct3 = k.1;
      rs1 = h.0;
      rs2 = h.1;
      funct7
          = b.2;
    })
    ∙ ap (map_some (λ kind. Branch kind rs1 rs2 (branch_offset d g))) k.0
    ∙ ap (λ v. Some (Branch kind rs1 rs2 (signed_part 8192 v))) b.0
    ∙ ap (λ z. Some (Branch kind rs1 rs2 z)) a.0
decoded (Load kind rd rs1 imm) h =
    let k = load_again kind in
    let u = unsigned_part 4096 imm in
    imm_word 3 rd (load_funct3 kind) rs1 u (omega arith) h.0 k.1 h.1 (again12 imm h.2).1
    ∙ ap (map_some (λ kind. Load kind rd rs1 (signed_part 4096 (u % 32 + 32 * (u / 32))))) k.0
    ∙ ap (λ z. Some (Load kind rd rs1 z)) (imm_back imm h.2)
decoded (Store kind rs2 rs1 imm) h =
    let k = store_again kind in
    let u = unsigned_part 4096 imm in
    let lt : u < 4096 = (again12 imm h.2).1 in
    of_fields 35 (u % 32) (store_funct3 kind) rs1 rs2 (u / 32)
    (record {
      opcode = omega arith;
      rd = omega arith;
      funct3 = k.1;
      rs1 = h.1;
      rs2 = h.0;
      funct7
          = omega arith;
    })
    ∙ ap (map_some (λ kind. Store kind rs2 rs1 (signed_part 4096 (u % 32 + 32 * (u / 32))))) k.0
    ∙ ap (λ z. Some (Store kind rs2 rs1 z)) (imm_back imm h.2)
decoded (OpImm kind rd rs1 imm) h =
    let u = unsigned_part 4096 imm in
    let k = imm_again kind rd rs1 (u % 32) (u / 32) in
    imm_word 19 rd (imm_funct3 kind) rs1 u (omega arith) h.0 k.1 h.1 (again12 imm h.2).1
    ∙ k.0
    ∙ ap (λ z. Some (OpImm kind rd rs1 z)) (imm_back imm h.2)
decoded (Shift kind rd rs1 amount) h =
    let k = shift_again kind rd rs1 amount in
    of_fields 19 rd (shift_funct3 kind) rs1 amount (shift_funct7 kind)
    (record {
      opcode = omega arith;
      rd = h.0;
      funct3 = k.1;
      rs1 = h.1;
      rs2 = h.2;
      funct7
          = k.2;
    })
    ∙ k.0
decoded (Op kind rd rs1 rs2) h =
    let k = op_again kind in
    of_fields 51 rd (op_funct3 kind) rs1 rs2 (op_funct7 kind)
    (record {
      opcode = omega arith;
      rd = h.0;
      funct3 = k.1;
      rs1 = h.1;
      rs2 = h.2;
      funct7
          = k.2;
    })
    ∙ ap (map_some (λ kind. Op kind rd rs1 rs2)) k.0
decoded (Fence top rs1 rd) h =
    let e : top % 32 + 32 * (top / 32) ≡ top = omega arith in
    imm_word 15 rd 0 rs1 top (omega arith) h.2 (omega arith) h.1 h.0
    ∙ ap (λ t. Some (Fence t rs1 rd)) e
decoded Ecall h = of_fields 115 0 0 0 0 0 (omega arith)
decoded Ebreak h = of_fields 115 0 0 0 1 0 (omega arith)

fields_small : (o d f a b g : ℕ) → Ranges o d f a b g → word_with o d f a b g < 2 ^ 32
unfolding word_with
fields_small o d f a b g h = omega arith

imm_small : (o d f a u : ℕ) → o < 128 → d < 32 → f < 8 → a < 32 → u < 4096
    → word_imm o d f a u < 2 ^ 32
imm_small o d f a u ho hd hf ha hu = fields_small o d f a (u % 32) (u / 32) (omega arith)

upper_small : (o d u : ℕ) → o < 128 → d < 32 → u < 1048576 → word_upper o d u < 2 ^ 32
upper_small o d u ho hd hu = fields_small o d (u % 8) (u / 8 % 32) (u / 256 % 32) (u / 8192)
    (omega arith)

-- a word has 32 bits
pub word_small : (i : Instr) → InRange i → word_of i < 2 ^ 32
word_small (Lui rd imm) h = upper_small 55 rd imm (omega arith) h.0 h.1
word_small (Auipc rd imm) h = upper_small 23 rd imm (omega arith) h.0 h.1
word_small (Jal rd off) h =
    let a = again21 off h.1 in
    upper_small 111 rd (jump_bits (unsigned_part 2097152 off)) (omega arith) h.0
    (jump_again (unsigned_part 2097152 off) a.1 h.1.2).1
word_small (Jalr rd rs1 imm) h = imm_small 103 rd 0 rs1 (unsigned_part 4096 imm) (omega arith) h.0
    (omega arith) h.1 (again12 imm h.2).1
word_small (Branch kind rs1 rs2 off) h =
    let a = again13 off h.2 in
    let u = unsigned_part 8192 off in
    let b = branch_bits u a.1 h.2.2 in
    fields_small 99 (u / 2048 % 2 + 2 * (u / 2 % 16)) (branch_funct3 kind) rs1 rs2
    (u / 32 % 64 + 64 * (u / 4096))
    (record {
      opcode = omega arith;
      rd = b.1;
      funct3 = (branch_again kind).1;
      rs1 = h.0;
      rs2
          = h.1;
      funct7 = b.2;
    })
word_small (Load kind rd rs1 imm) h = imm_small 3 rd (load_funct3 kind) rs1 (unsigned_part 4096 imm)
    (omega arith) h.0 (load_again kind).1 h.1 (again12 imm h.2).1
word_small (Store kind rs2 rs1 imm) h =
    let u = unsigned_part 4096 imm in
    let lt : u < 4096 = (again12 imm h.2).1 in
    fields_small 35 (u % 32) (store_funct3 kind) rs1 rs2 (u / 32)
    (record {
      opcode = omega arith;
      rd = omega arith;
      funct3 = (store_again kind).1;
      rs1
          = h.1;
      rs2 = h.0;
      funct7 = omega arith;
    })
word_small (OpImm kind rd rs1 imm) h = imm_small 19 rd (imm_funct3 kind) rs1
    (unsigned_part 4096 imm) (omega arith) h.0 (imm_again kind rd rs1 0 0).1 h.1 (again12 imm h.2).1
word_small (Shift kind rd rs1 amount) h =
    let k = shift_again kind rd rs1 amount in
    fields_small 19 rd (shift_funct3 kind) rs1 amount (shift_funct7 kind)
    (record {
      opcode = omega arith;
      rd = h.0;
      funct3 = k.1;
      rs1 = h.1;
      rs2 = h.2;
      funct7
          = k.2;
    })
word_small (Op kind rd rs1 rs2) h =
    let k = op_again kind in
    fields_small 51 rd (op_funct3 kind) rs1 rs2 (op_funct7 kind)
    (record {
      opcode = omega arith;
      rd = h.0;
      funct3 = k.1;
      rs1 = h.1;
      rs2 = h.2;
      funct7
          = k.2;
    })
word_small (Fence top rs1 rd) h = imm_small 15 rd 0 rs1 top (omega arith) h.2 (omega arith) h.1 h.0
word_small Ecall h = omega arith
word_small Ebreak h = omega arith
