-- Where a word decodes to an instruction, it is that instruction's word.
use Rattle.std.proofs.Common.{◌≡◌, ℕ, ◌+◌, ◌*◌, ◌/◌, ◌%◌, ◌<◌, ◌^◌, refl, sym, ap, ◌∙◌, subst, arith, Option, Some, None, Bool, true, false}
use Rattle.std.specs.Prelude.{ℤ, pos, negsuc, nat_lt, nat_eq, IfSome, ◌≤◌, suc, ◌-◌, ◌&&◌, if◌then◌else◌}
use Rattle.std.proofs.lemmas.Bool.Decides.{nat_tests, Decides-eqb}
use Rattle.std.proofs.lemmas.Int.{ints}
use Rattle.rv32_isa.specs.declared.instr.BranchKind.{BranchKind}
use Rattle.rv32_isa.specs.declared.instr.BranchKind.TheVariants.{Beq, Bne, Blt, Bge, Bltu, Bgeu}
use Rattle.rv32_isa.specs.declared.instr.LoadKind.{LoadKind}
use Rattle.rv32_isa.specs.declared.instr.LoadKind.TheVariants.{Lb, Lh, Lw, Lbu, Lhu}
use Rattle.rv32_isa.specs.declared.instr.StoreKind.{StoreKind}
use Rattle.rv32_isa.specs.declared.instr.StoreKind.TheVariants.{Sb, Sh, Sw}
use Rattle.rv32_isa.specs.declared.instr.ImmKind.{ImmKind}
use Rattle.rv32_isa.specs.declared.instr.ImmKind.TheVariants.{Addi, Slti, Sltiu, Xori, Ori, Andi}
use Rattle.rv32_isa.specs.declared.instr.ShiftKind.{ShiftKind}
use Rattle.rv32_isa.specs.declared.instr.ShiftKind.TheVariants.{Slli, Srli, Srai}
use Rattle.rv32_isa.specs.declared.instr.OpKind.{OpKind}
use Rattle.rv32_isa.specs.declared.instr.OpKind.TheVariants.{Add, Sll, Slt, Sltu, Xor, Srl, Or, And, Sub, Sra, Mul, Mulh, Mulhsu, Mulhu, Div, Divu, Rem, Remu}
use Rattle.rv32_isa.specs.declared.instr.Instr.{Instr}
use Rattle.rv32_isa.specs.Table.{word_with, instr_with, instr_of, word_of, InRange, branch_kind, load_kind, store_kind, imm_kind, shift_kind, op_kind, branch_funct3, load_funct3, store_funct3, imm_funct3, shift_funct3, shift_funct7, op_funct3, op_funct7, jump_bits, jump_offset, branch_offset, word_imm, word_upper, map_some}
use Rattle.rv32_isa.specs.Bits.{unsigned_part, signed_part, IsImm12, IsOffB, IsOffJ}
use Rattle.rv32_isa.proofs.Decoded.{decoded}
use Rattle.rv32_isa.proofs.Parts.{Ranges, word_whole, ranges_of}

-- a choice that gave z, in two cases
by_if : {A : Type 0} (b : Bool) (x y z : A) (P : Type 0) → (if b then x else y) ≡ z
    → (b ≡ true → x ≡ z → P) → (b ≡ false → y ≡ z → P) → P
by_if true x y z P h f g = f refl h
by_if false x y z P h f g = g refl h

by_eq : {A : Type 0} (m n : ℕ) (x y z : A) (P : Type 0) → (if nat_eq m n then x else y) ≡ z
    → (m ≡ n → x ≡ z → P) → (y ≡ z → P) → P
by_eq m n x y z P h f g = by_if (nat_eq m n) x y z P h (λ e. f ((Decides-eqb m n).0 e)) (λ _. g)

by_map : {K A : Type 0} (f : K → A) (o : Option K) (z : A) (P : Type 0) → map_some f o ≡ Some z
    → ((k : K) → o ≡ Some k → Some (f k) ≡ Some z → P) → P
by_map f None z P h g = cc
by_map f (Some k) z P h g = g k refl h

no_row : {A : Type 0} (z : A) (P : Type 0) → Some z ≡ None → P
no_row z P h = cc

-- the field that a kind has
one_field : {K : Type 0} (g : K → ℕ) (x k : K) (f n : ℕ) → f ≡ n → Some x ≡ Some k → g x ≡ n
    → g k ≡ f
one_field g x k f n e h c = let i : x ≡ k = cc in sym (ap g i) ∙ c ∙ sym e

branch_field : (f : ℕ) (k : BranchKind) → branch_kind f ≡ Some k → branch_funct3 k ≡ f
unfolding branch_kind
branch_field f k e = by_eq f 0 _ _ _ _ e (λ at e. one_field branch_funct3 Beq k f 0 at e refl) (λ e.
    by_eq f 1 _ _ _ _ e (λ at e. one_field branch_funct3 Bne k f 1 at e refl) (λ e.
    by_eq f 4 _ _ _ _ e (λ at e. one_field branch_funct3 Blt k f 4 at e refl) (λ e.
    by_eq f 5 _ _ _ _ e (λ at e. one_field branch_funct3 Bge k f 5 at e refl) (λ e.
    by_eq f 6 _ _ _ _ e (λ at e. one_field branch_funct3 Bltu k f 6 at e refl) (λ e.
    by_eq f 7 _ _ _ _ e (λ at e. one_field branch_funct3 Bgeu k f 7 at e refl) (λ e.
    no_row k _ (sym e)))))))

load_field : (f : ℕ) (k : LoadKind) → load_kind f ≡ Some k → load_funct3 k ≡ f
unfolding load_kind
load_field f k e = by_eq f 0 _ _ _ _ e (λ at e. one_field load_funct3 Lb k f 0 at e refl) (λ e.
    by_eq f 1 _ _ _ _ e (λ at e. one_field load_funct3 Lh k f 1 at e refl) (λ e.
    by_eq f 2 _ _ _ _ e (λ at e. one_field load_funct3 Lw k f 2 at e refl) (λ e.
    by_eq f 4 _ _ _ _ e (λ at e. one_field load_funct3 Lbu k f 4 at e refl) (λ e.
    by_eq f 5 _ _ _ _ e (λ at e. one_field load_funct3 Lhu k f 5 at e refl) (λ e.
    no_row k _ (sym e))))))

store_field : (f : ℕ) (k : StoreKind) → store_kind f ≡ Some k → store_funct3 k ≡ f
unfolding store_kind
store_field f k e = by_eq f 0 _ _ _ _ e (λ at e. one_field store_funct3 Sb k f 0 at e refl) (λ e.
    by_eq f 1 _ _ _ _ e (λ at e. one_field store_funct3 Sh k f 1 at e refl) (λ e.
    by_eq f 2 _ _ _ _ e (λ at e. one_field store_funct3 Sw k f 2 at e refl) (λ e.
    no_row k _ (sym e))))

imm_field : (f : ℕ) (k : ImmKind) → imm_kind f ≡ Some k → imm_funct3 k ≡ f
unfolding imm_kind
imm_field f k e = by_eq f 0 _ _ _ _ e (λ at e. one_field imm_funct3 Addi k f 0 at e refl) (λ e.
    by_eq f 2 _ _ _ _ e (λ at e. one_field imm_funct3 Slti k f 2 at e refl) (λ e.
    by_eq f 3 _ _ _ _ e (λ at e. one_field imm_funct3 Sltiu k f 3 at e refl) (λ e.
    by_eq f 4 _ _ _ _ e (λ at e. one_field imm_funct3 Xori k f 4 at e refl) (λ e.
    by_eq f 6 _ _ _ _ e (λ at e. one_field imm_funct3 Ori k f 6 at e refl) (λ e.
    by_eq f 7 _ _ _ _ e (λ at e. one_field imm_funct3 Andi k f 7 at e refl) (λ e.
    no_row k _ (sym e)))))))

shift_field : (f3 f7 : ℕ) (k : ShiftKind) → shift_kind f3 f7 ≡ Some k → (shift_funct3 k ≡ f3)
    × (shift_funct7 k ≡ f7)
unfolding shift_kind
shift_field f g k e =
    by_eq f 1 _ _ _ _ e
    (λ at e. by_eq g 0 _ _ _ _ e
    (λ at7 e.
    (one_field shift_funct3 Slli k f 1 at e refl, one_field shift_funct7 Slli k g 0 at7 e refl))
    (λ e. no_row k _ (sym e))) (λ e.
    by_eq f 5 _ _ _ _ e
    (λ at e. by_eq g 0 _ _ _ _ e
    (λ at7 e.
    (one_field shift_funct3 Srli k f 5 at e refl, one_field shift_funct7 Srli k g 0 at7 e refl))
    (λ e.
    by_eq g 32 _ _ _ _ e
    (λ at7 e. (
      one_field shift_funct3 Srai k f 5 at e refl,
      one_field shift_funct7 Srai k g 32 at7 e refl,
    )) (λ e. no_row k _ (sym e))))
    (λ e. no_row k _ (sym e)))

op_field : (f g : ℕ) (k : OpKind) → op_kind f g ≡ Some k → (op_funct3 k ≡ f) × (op_funct7 k ≡ g)
unfolding op_kind
op_field f g k e = by_eq g 0 _ _ _ _ e
    (λ at7 e. by_eq f 0 _ _ _ _ e
    (λ at e. (one_field op_funct3 Add k f 0 at e refl, one_field op_funct7 Add k g 0 at7 e refl))
    (λ e.
    by_eq f 1 _ _ _ _ e
    (λ at e. (
      one_field op_funct3 Sll k f 1 at e refl,
      one_field op_funct7 Sll k g 0 at7 e refl,
    )) (λ e.
    by_eq f 2 _ _ _ _ e
    (λ at e. (
      one_field op_funct3 Slt k f 2 at e refl,
      one_field op_funct7 Slt k g 0 at7 e refl,
    )) (λ e.
    by_eq f 3 _ _ _ _ e
    (λ at e. (
      one_field op_funct3 Sltu k f 3 at e refl,
      one_field op_funct7 Sltu k g 0 at7 e refl,
    )) (λ e.
    by_eq f 4 _ _ _ _ e
    (λ at e. (
      one_field op_funct3 Xor k f 4 at e refl,
      one_field op_funct7 Xor k g 0 at7 e refl,
    )) (λ e.
    by_eq f 5 _ _ _ _ e
    (λ at e. (
      one_field op_funct3 Srl k f 5 at e refl,
      one_field op_funct7 Srl k g 0 at7 e refl,
    )) (λ e.
    by_eq f 6 _ _ _ _ e
    (λ at e. (one_field op_funct3 Or k f 6 at e refl, one_field op_funct7 Or k g 0 at7 e refl))
    (λ e.
    by_eq f 7 _ _ _ _ e
    (λ at e. (
      one_field op_funct3 And k f 7 at e refl,
      one_field op_funct7 And k g 0 at7 e refl,
    )) (λ e.
    no_row k _ (sym e)))))))))) (λ e.
    by_eq g 32 _ _ _ _ e
    (λ at7 e. by_eq f 0 _ _ _ _ e
    (λ at e. (
      one_field op_funct3 Sub k f 0 at e refl,
      one_field op_funct7 Sub k g 32 at7 e refl,
    )) (λ e.
    by_eq f 5 _ _ _ _ e
    (λ at e. (
      one_field op_funct3 Sra k f 5 at e refl,
      one_field op_funct7 Sra k g 32 at7 e refl,
    )) (λ e.
    no_row k _ (sym e)))) (λ e.
    by_eq g 1 _ _ _ _ e
    (λ at7 e. by_eq f 0 _ _ _ _ e
    (λ at e. (
      one_field op_funct3 Mul k f 0 at e refl,
      one_field op_funct7 Mul k g 1 at7 e refl,
    )) (λ e.
    by_eq f 1 _ _ _ _ e
    (λ at e. (
      one_field op_funct3 Mulh k f 1 at e refl,
      one_field op_funct7 Mulh k g 1 at7 e refl,
    )) (λ e.
    by_eq f 2 _ _ _ _ e
    (λ at e. (
      one_field op_funct3 Mulhsu k f 2 at e refl,
      one_field op_funct7 Mulhsu k g 1 at7 e refl,
    )) (λ e.
    by_eq f 3 _ _ _ _ e
    (λ at e. (
      one_field op_funct3 Mulhu k f 3 at e refl,
      one_field op_funct7 Mulhu k g 1 at7 e refl,
    )) (λ e.
    by_eq f 4 _ _ _ _ e
    (λ at e. (
      one_field op_funct3 Div k f 4 at e refl,
      one_field op_funct7 Div k g 1 at7 e refl,
    )) (λ e.
    by_eq f 5 _ _ _ _ e
    (λ at e. (
      one_field op_funct3 Divu k f 5 at e refl,
      one_field op_funct7 Divu k g 1 at7 e refl,
    )) (λ e.
    by_eq f 6 _ _ _ _ e
    (λ at e. (
      one_field op_funct3 Rem k f 6 at e refl,
      one_field op_funct7 Rem k g 1 at7 e refl,
    )) (λ e.
    by_eq f 7 _ _ _ _ e
    (λ at e. (
      one_field op_funct3 Remu k f 7 at e refl,
      one_field op_funct7 Remu k g 1 at7 e refl,
    )) (λ e.
    no_row k _ (sym e)))))))))) (λ e.
    no_row k _ (sym e))))

-- ---- the numbers of a row

sign_case : (m u : ℕ) (P : ℤ → Type 0) → (u < m / 2 → P (pos u))
    → (m / 2 ≤ u → P (negsuc (m - suc u))) → (b : Bool) → nat_lt u (m / 2) ≡ b
    → P (if b then pos u else negsuc (m - suc u))
sign_case m u P f g true e = f (grind (arith, nat_tests))
sign_case m u P f g false e = g (grind (arith, nat_tests))

by_sign : (m u : ℕ) (P : ℤ → Type 0) → (u < m / 2 → P (pos u))
    → (m / 2 ≤ u → P (negsuc (m - suc u))) → P (signed_part m u)
by_sign m u P f g = sign_case m u P f g (nat_lt u (m / 2)) refl

back12 : (u : ℕ) → u < 4096 → (unsigned_part 4096 (signed_part 4096 u) ≡ u)
    × IsImm12 (signed_part 4096 u)
back12 u h = by_sign 4096 u (λ z. (unsigned_part 4096 z ≡ u) × IsImm12 z)
    (λ lt. (refl, omega (arith, ints))) (λ le. (omega arith, omega (arith, ints)))

back13 : (u : ℕ) → u < 8192 → u % 2 ≡ 0 → (unsigned_part 8192 (signed_part 8192 u) ≡ u)
    × IsOffB (signed_part 8192 u)
back13 u h e = by_sign 8192 u (λ z. (unsigned_part 8192 z ≡ u) × IsOffB z)
    (λ lt. (refl, (omega (arith, ints), omega (arith, ints), e)))
    (λ le. (omega arith, (omega (arith, ints), omega (arith, ints), omega arith)))

back21 : (u : ℕ) → u < 2097152 → u % 2 ≡ 0 → (unsigned_part 2097152 (signed_part 2097152 u) ≡ u)
    × IsOffJ (signed_part 2097152 u)
back21 u h e = by_sign 2097152 u (λ z. (unsigned_part 2097152 z ≡ u) × IsOffJ z)
    (λ lt. (refl, (omega (arith, ints), omega (arith, ints), e)))
    (λ le. (omega arith, (omega (arith, ints), omega (arith, ints), omega arith)))

-- the instruction has this word, and its numbers are in range
abbrev Fits : Instr → ℕ → Type 0
Fits i w = (word_of i ≡ w) × InRange i

upper_fits : (o d f a b g : ℕ) → Ranges o d f a b g
    → (let u = f + 8 * (a + 32 * (b + 32 * g)) in word_upper o d u) ≡ word_with o d f a b g
upper_fits o d f a b g h =
    let u = f + 8 * (a + 32 * (b + 32 * g)) in
    let e1 : u % 8 ≡ f = omega arith in
    let e2 : u / 8 % 32 ≡ a = omega arith in
    let e3 : u / 256 % 32 ≡ b = omega arith in
    let e4 : u / 8192 ≡ g = omega arith in
    cc

imm_fits : (o d f a b g : ℕ) → Ranges o d f a b g →
    (word_imm o d f a (unsigned_part 4096 (signed_part 4096 (b + 32 * g))) ≡ word_with o d f a b g)
    × IsImm12 (signed_part 4096 (b + 32 * g))
imm_fits o d f a b g h =
    let u = b + 32 * g in
    let lt : u < 4096 = omega arith in
    let k = back12 u lt in
    let e1 : u % 32 ≡ b = omega arith in
    let e2 : u / 32 ≡ g = omega arith in
    let all : word_imm o d f a u ≡ word_with o d f a b g = cc in
    (ap (word_imm o d f a) k.0 ∙ all, k.1)

store_fits : (o d f a b g : ℕ) → Ranges o d f a b g
    → (let z = unsigned_part 4096 (signed_part 4096 (d + 32 * g))
    in word_with o (z % 32) f a b (z / 32) ≡ word_with o d f a b g)
    × IsImm12 (signed_part 4096 (d + 32 * g))
store_fits o d f a b g h =
    let u = d + 32 * g in
    let lt : u < 4096 = omega arith in
    let k = back12 u lt in
    let e1 : u % 32 ≡ d = omega arith in
    let e2 : u / 32 ≡ g = omega arith in
    let all : word_with o (u % 32) f a b (u / 32) ≡ word_with o d f a b g = cc in
    (ap (λ z. word_with o (z % 32) f a b (z / 32)) k.0 ∙ all, k.1)

branch_fits : (o d f a b g : ℕ) → Ranges o d f a b g
    → (let u = unsigned_part 8192 (branch_offset d g)
    in word_with o (u / 2048 % 2 + 2 * (u / 2 % 16)) f a b (u / 32 % 64 + 64 * (u / 4096)) ≡
    word_with o d f a b g) × IsOffB (branch_offset d g)
branch_fits o d f a b g h =
    let u = 2 * (d / 2) + 32 * (g % 64) + 2048 * (d % 2) + 4096 * (g / 64) in
    let lt : u < 8192 = omega arith in
    let even : u % 2 ≡ 0 = omega arith in
    let k = back13 u lt even in
    let e1 : u / 2048 % 2 + 2 * (u / 2 % 16) ≡ d = omega arith in
    let e2 : u / 32 % 64 + 64 * (u / 4096) ≡ g = omega arith in
    let all : word_with o (u / 2048 % 2 + 2 * (u / 2 % 16)) f a b (u / 32 % 64 + 64 * (u / 4096)) ≡
    word_with o d f a b g = cc in (
      ap (λ u. word_with o (u / 2048 % 2 + 2 * (u / 2 % 16)) f a b (u / 32 % 64 + 64 * (u / 4096)))
          k.0 ∙ all,
      k.1,
    )

jump_bits_back : (p : ℕ) → p < 1048576 → jump_bits (unsigned_part 2097152 (jump_offset p)) ≡ p
jump_bits_back p h =
    let u = 2 * (p / 512 % 1024) + 2048 * (p / 256 % 2) + 4096 * (p % 256) + 1048576 * (p / 524288)
    in
    let k = back21 u (omega arith) (omega arith) in
    let e : jump_bits u ≡ p = omega arith in
    ap jump_bits k.0 ∙ e

jump_in_range : (p : ℕ) → p < 1048576 → IsOffJ (jump_offset p)
jump_in_range p h =
    let u = 2 * (p / 512 % 1024) + 2048 * (p / 256 % 2) + 4096 * (p % 256) + 1048576 * (p / 524288)
    in
    (back21 u (omega arith) (omega arith)).1

-- what is known of one row holds of the instruction that the choice gave
same_row : (x i : Instr) (w : ℕ) → Some x ≡ Some i → Fits x w → Fits i w
same_row x i w e h = let s : x ≡ i = cc in subst (λ y. Fits y w) s h

at_row : (o n d f a b g : ℕ) (x i : Instr) → o ≡ n → Some x ≡ Some i
    → Fits x (word_with n d f a b g) → Fits i (word_with o d f a b g)
at_row o n d f a b g x i at e h = same_row x i _ e
    (subst (λ m. Fits x (word_with m d f a b g)) (sym at) h)

-- equal fields, equal words
same_word : (o d f a b g o' d' f' a' b' g' : ℕ) → o ≡ o' → d ≡ d' → f ≡ f' → a ≡ a' → b ≡ b'
    → g ≡ g' → word_with o' d' f' a' b' g' ≡ word_with o d f a b g
same_word o d f a b g o' d' f' a' b' g' e1 e2 e3 e4 e5 e6 = cc

by_and : (p q : Bool) (P : Type 0) → p && q ≡ true → (p ≡ true → q ≡ true → P) → P
by_and true q P e h = h refl e
by_and false q P e h = cc

zeros : (d f a g : ℕ) → nat_eq d 0 && nat_eq f 0 && nat_eq a 0 && nat_eq g 0 ≡ true → (d ≡ 0)
    × (f ≡ 0) × (a ≡ 0) × (g ≡ 0)
zeros d f a g e = by_and _ _ _ e
    (λ e g0. by_and _ _ _ e
    (λ e a0. by_and _ _ _ e
    (λ d0 f0. (
      (Decides-eqb d 0).0 d0,
      (Decides-eqb f 0).0 f0,
      (Decides-eqb a 0).0 a0,
      (Decides-eqb g 0).0 g0,
    ))))

pub row_back : (o d f a b g : ℕ) (i : Instr) → Ranges o d f a b g → instr_with o d f a b g ≡ Some i
    → Fits i (word_with o d f a b g)
unfolding instr_with word_with
row_back o d f a b g i r e =
    let upper = f + 8 * (a + 32 * (b + 32 * g)) in
    let lt : upper < 1048576 = omega arith in
    let imm = imm_fits o d f a b g r in
    by_eq o 55 _ _ _ _ e
    (λ at e. at_row o 55 d f a b g _ i at e (upper_fits 55 d f a b g (omega arith), (r.rd, lt)))
    (λ e.
    by_eq o 23 _ _ _ _ e
    (λ at e. at_row o 23 d f a b g _ i at e (upper_fits 23 d f a b g (omega arith), (r.rd, lt)))
    (λ e.
    by_eq o 111 _ _ _ _ e
    (λ at e. at_row o 111 d f a b g _ i at e (
      ap (word_upper 111 d) (jump_bits_back upper lt) ∙ upper_fits 111 d f a b g (omega arith),
      (r.rd, jump_in_range upper lt),
    )) (λ e.
    by_eq o 103 _ _ _ _ e (λ at e. by_eq f 0 _ _ _ _ e (λ at3 e.
    let k = imm_fits 103 d 0 a b g (omega arith) in
    same_row _ i _ e
    (k.0 ∙ same_word o d f a b g 103 d 0 a b g at refl at3 refl refl refl, (r.rd, r.rs1, k.1)))
    (λ e. no_row i _ (sym e))) (λ e.
    by_eq o 99 _ _ _ _ e (λ at e. by_map _ _ i _ e (λ kind is e.
    let k = branch_fits 99 d f a b g (omega arith) in
    let z = branch_field f kind is in
    let u = unsigned_part 8192 (branch_offset d g) in
    at_row o 99 d f a b g _ i at e (
      ap (λ n. word_with 99 (u / 2048 % 2 + 2 * (u / 2 % 16)) n a b
          (u / 32 % 64 + 64 * (u / 4096))) z ∙ k.0,
      (r.rs1, r.rs2, k.1),
    ))) (λ e.
    by_eq o 3 _ _ _ _ e (λ at e. by_map _ _ i _ e (λ kind is e.
    let k = imm_fits 3 d f a b g (omega arith) in
    at_row o 3 d f a b g _ i at e (
      ap (λ n. word_imm 3 d n a (unsigned_part 4096 (signed_part 4096 (b + 32 * g))))
          (load_field f kind is) ∙ k.0,
      (r.rd, r.rs1, k.1),
    ))) (λ e.
    by_eq o 35 _ _ _ _ e (λ at e. by_map _ _ i _ e (λ kind is e.
    let k = store_fits 35 d f a b g (omega arith) in
    let u = unsigned_part 4096 (signed_part 4096 (d + 32 * g)) in
    at_row o 35 d f a b g _ i at e (
      ap (λ n. word_with 35 (u % 32) n a b (u / 32)) (store_field f kind is) ∙ k.0,
      (r.rs2, r.rs1, k.1),
    ))) (λ e.
    by_eq o 19 _ _ _ _ e
    (λ at e. by_eq (f % 4) 1 _ _ _ _ e (λ shifts e. by_map _ _ i _ e (λ kind is e.
    let z = shift_field f g kind is in
    same_row _ i _ e (
      same_word o d f a b g 19 d _ a b _ at refl (sym z.0) refl refl (sym z.1),
      (r.rd, r.rs1, r.rs2),
    ))) (λ e. by_map _ _ i _ e (λ kind is e.
    let k = imm_fits 19 d f a b g (omega arith) in
    at_row o 19 d f a b g _ i at e (
      ap (λ n. word_imm 19 d n a (unsigned_part 4096 (signed_part 4096 (b + 32 * g))))
          (imm_field f kind is) ∙ k.0,
      (r.rd, r.rs1, k.1),
    )))) (λ e.
    by_eq o 51 _ _ _ _ e (λ at e. by_map _ _ i _ e (λ kind is e.
    let z = op_field f g kind is in
    same_row _ i _ e (
      same_word o d f a b g 51 d _ a b _ at refl (sym z.0) refl refl (sym z.1),
      (r.rd, r.rs1, r.rs2),
    ))) (λ e.
    by_eq o 15 _ _ _ _ e (λ at e. by_eq f 0 _ _ _ _ e (λ at3 e.
    let u = b + 32 * g in
    let lt : u < 4096 = omega arith in
    let e1 : b ≡ u % 32 = omega arith in
    let e2 : g ≡ u / 32 = omega arith in
    same_row _ i _ e (
      same_word o d f a b g 15 d 0 a (u % 32) (u / 32) at refl at3 refl e1 e2,
      (lt, r.rs1, r.rd),
    )) (λ e. no_row i _ (sym e))) (λ e.
    by_eq o 115 _ _ _ _ e (λ at e. by_if _ _ _ _ _ e (λ zero e.
    let z = zeros d f a g zero in
    by_eq b 0 _ _ _ _ e
    (λ at2 e. same_row _ i _ e (same_word o d f a b g 115 0 0 0 0 0 at z.0 z.1 z.2 at2 z.3, tt))
    (λ e.
    by_eq b 1 _ _ _ _ e
    (λ at2 e. same_row _ i _ e (same_word o d f a b g 115 0 0 0 1 0 at z.0 z.1 z.2 at2 z.3, tt))
    (λ e. no_row i _ (sym e))))
    (λ _ e. no_row i _ (sym e))) (λ e. no_row i _ (sym e))))))))))))

pub word_back : (w : ℕ) (i : Instr) → w < 2 ^ 32 → instr_of w ≡ Some i → (word_of i ≡ w) × InRange i
unfolding instr_of
word_back w i h e =
    let k = row_back (w % 128) (w / 128 % 32) (w / 4096 % 8) (w / 32768 % 32) (w / 1048576 % 32)
    (w / 33554432) i (ranges_of w h) e in
    (k.0 ∙ word_whole w, k.1)

-- where a word has a row, and where it has none
pub each_row : (w : ℕ) (o : Option Instr) → w < 2 ^ 32 → o ≡ instr_of w
    → IfSome o (λ i. (word_of i ≡ w) × InRange i)
each_row w None h e = tt
each_row w (Some i) h e = word_back w i h (sym e)

pub other_rows : (w : ℕ) (o : Option Instr) → o ≡ instr_of w → o ≡ None → (i : Instr) → InRange i
    → word_of i ≡ w → ⊥
other_rows w o e n i r is = let s : Some i ≡ None = sym (decoded i r) ∙ ap instr_of is ∙ sym e ∙ n
    in cc
