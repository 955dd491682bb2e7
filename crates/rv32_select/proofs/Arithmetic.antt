-- The operations of low code are those of the machine, on two registers and on a register and a
-- number.
use Rattle.std.proofs.Common.{◌≡◌, ◌≢◌, ℕ, ℤ, pos, negsuc, zero, suc, ◌-◌, ◌*◌, ◌/◌, ◌%◌, ◌^◌, ◌<◌, ◌≤◌, [], ◌∷◌, cond, Bool, true, false, not, inl, inr, refl, sym, ap, ◌∙◌, subst, arith, div-le_self}
use Rattle.std.specs.Prelude.{nat_eq, nat_lt, if◌then◌else◌}
use Rattle.std.proofs.Math.Nat.{mod-le}
use Rattle.std.proofs.Math.IntN.{+ℤ_comm, *ℤ_comm}
use Rattle.std.proofs.lemmas.Bool.Decides.{nat_tests}
use Rattle.seq.proofs.Truth.{two_ways}
use Rattle.numbers.specs.Numbers.{wrap, bool_as_number, same_number}
use Rattle.rv32_isa.specs.declared.instr.Instr.TheVariants.{OpImm, Op}
use Rattle.rv32_isa.specs.declared.instr.ImmKind.TheVariants.{Addi, Slti, Sltiu}
use Rattle.rv32_isa.specs.declared.instr.OpKind.{OpKind}
use Rattle.rv32_isa.specs.declared.instr.OpKind.TheVariants as op
use Rattle.rv32_machine.specs.Memory.{Stretch}
use Rattle.rv32_machine.specs.Arithmetic.{plus, minus, bit, less_signed, signed, pattern, op_value, is_negative, magnitude, just_one, with_sign, divided, left_over, negated, is_taken}
use Rattle.rv32_items.specs.Course.{kind_of}
use Rattle.rv32_select.specs.Decides.{compares, condition_one, condition_zero, condition, other_condition}
use Rattle.rv32_machine.proofs.Division.{operations_agree}
use Rattle.rv32_steps.specs.Data.{Bases}
use Rattle.rv32_steps.specs.Straight.{register_value}
use Rattle.low_code.specs.declared.program.PrimOp.{PrimOp}
use Rattle.low_code.specs.declared.program.PrimOp.TheVariants.{Add, Sub, Mul, Quot, Rem, Eq, Lt}
use Rattle.low_code.specs.Arithmetic.{arithmetic}
use Rattle.rv32_select.specs.Emit.{is_short, operation, immediate, is_immediate, is_free}
use Rattle.rv32_select.proofs.Straight.{Data, with_reg, Good, Does, does_on, does_to, does_imm, does_op}
use Rattle.rv32_select.proofs.NumberParts.{value_is, again, short_part}
use Rattle.rv32_machine.proofs.Registers.{set_here}
use Rattle.numbers.proofs.Same.{same_itself}
use Rattle.rv32_isa.specs.Bits.{lower}

-- ---- bounds

bit_small : (t : Bool) → bit t < 2 ^ 32
bit_small true = omega arith
bit_small false = omega arith

magnitude_small : (a : ℕ) → a < 2 ^ 32 → magnitude a < 2 ^ 32
magnitude_small a h = elim (two_ways (nat_lt a (2 ^ 31))) [
  | inl e ↦ subst (λ t. (if not t then 2 ^ 32 - a else a) < 2 ^ 32) (sym e) h
  | inr e ↦ subst (λ t. (if not t then 2 ^ 32 - a else a) < 2 ^ 32) (sym e)
      (let large : 2 ^ 31 ≤ a = grind (arith, nat_tests) in omega arith)
]

sign_small : (t : Bool) (n : ℕ) → n < 2 ^ 32 → with_sign t n < 2 ^ 32
sign_small true n h = omega arith
sign_small false n h = h

divided_small : (a b : ℕ) → a < 2 ^ 32 → divided a b < 2 ^ 32
divided_small a b h = go (nat_eq b 0)
  where
    go : (t : Bool) →
        (if t then 2 ^ 32 - 1 else with_sign (just_one (is_negative a) (is_negative b))
        (magnitude a / magnitude b)) < 2 ^ 32
    go true = omega arith
    go false =
        let small = magnitude_small a h in
        let less = div-le_self (magnitude a) (magnitude b) in
        sign_small (just_one (is_negative a) (is_negative b)) (magnitude a / magnitude b)
        (omega arith)

left_over_small : (a b : ℕ) → a < 2 ^ 32 → left_over a b < 2 ^ 32
left_over_small a b h = go (nat_eq b 0)
  where
    go : (t : Bool) → (if t then a else with_sign (is_negative a) (magnitude a % magnitude b)) < 2 ^
        32
    go true = h
    go false =
        let small = magnitude_small a h in
        let less = mod-le (magnitude a) (magnitude b) in
        sign_small (is_negative a) (magnitude a % magnitude b) (omega arith)

-- ---- equal words

same_turns : (y z : ℤ) → same_number y z ≡ same_number z y
same_turns (pos m) (pos n) = equal_turns m n
  where
    equal_turns : (m n : ℕ) → nat_eq m n ≡ nat_eq n m
    equal_turns m n = elim (two_ways (nat_eq m n)) [
      | inl e ↦ e ∙ sym (let is : m ≡ n = grind (arith, nat_tests) in grind (arith, nat_tests))
      | inr e ↦ e ∙ sym (let is : m ≢ n = grind (arith, nat_tests) in grind (arith, nat_tests))
    ]
same_turns (pos m) (negsuc n) = refl
same_turns (negsuc m) (pos n) = refl
same_turns (negsuc m) (negsuc n) = equal_turns m n
  where
    equal_turns : (m n : ℕ) → nat_eq m n ≡ nat_eq n m
    equal_turns m n = elim (two_ways (nat_eq m n)) [
      | inl e ↦ e ∙ sym (let is : m ≡ n = grind (arith, nat_tests) in grind (arith, nat_tests))
      | inr e ↦ e ∙ sym (let is : m ≢ n = grind (arith, nat_tests) in grind (arith, nat_tests))
    ]

signed_differ : (m n : ℕ) → m < 2 ^ 32 → n < 2 ^ 32 → m ≢ n
    → same_number (signed m) (signed n) ≡ false
signed_differ m n hm hn ne = by_sign (nat_lt m (2 ^ 31)) (nat_lt n (2 ^ 31))
  where
    by_sign : (s t : Bool) → same_number (cond s (pos m) (negsuc (2 ^ 32 - suc m)))
        (cond t (pos n) (negsuc (2 ^ 32 - suc n))) ≡ false
    by_sign true true = grind (arith, nat_tests)
    by_sign true false = refl
    by_sign false true = refl
    by_sign false false = let apart : 2 ^ 32 - suc m ≢ 2 ^ 32 - suc n = omega arith
        in grind (arith, nat_tests)

-- a difference that is below 1 is one of equal words
difference_tells : (m n : ℕ) → m < 2 ^ 32 → n < 2 ^ 32
    → bit (nat_lt (minus m n) 1) ≡ arithmetic Eq m n
difference_tells m n hm hn = elim (two_ways (nat_eq m n)) [
  | inl e ↦
      let is : m ≡ n = grind (arith, nat_tests) in
      let none : nat_lt (minus m n) 1 ≡ true = let z : minus m n ≡ 0 = omega arith
      in grind (arith, nat_tests) in
      let same : same_number (signed m) (signed n) ≡ true
      = ap (λ x. same_number (signed m) (signed x)) (sym is) ∙ same_itself (signed m) in
      ap bit none ∙ sym (ap (λ t. pattern (bool_as_number t)) same)
  | inr e ↦
      let apart : m ≢ n = grind (arith, nat_tests) in
      let some : nat_lt (minus m n) 1 ≡ false = let z : 1 ≤ minus m n = omega arith
      in grind (arith, nat_tests) in
      ap bit some ∙ sym (ap (λ t. pattern (bool_as_number t)) (signed_differ m n hm hn apart))
]

-- ---- comparisons

-- whether two words compare so
abbrev pub compared : PrimOp → ℕ → ℕ → Bool
compared Add m n = false
compared Sub m n = false
compared Mul m n = false
compared Quot m n = false
compared Rem m n = false
compared Eq m n = nat_eq m n
compared Lt m n = less_signed m n

comparison_is : (p : PrimOp) (m n : ℕ) → compares p ≡ true → m < 2 ^ 32 → n < 2 ^ 32
    → arithmetic p m n ≡ bit (compared p m n)
comparison_is Add m n e hm hn = absurd (cc)
comparison_is Sub m n e hm hn = absurd (cc)
comparison_is Mul m n e hm hn = absurd (cc)
comparison_is Quot m n e hm hn = absurd (cc)
comparison_is Rem m n e hm hn = absurd (cc)
comparison_is Lt m n e hm hn = sym (operations_agree.slt_is m n hm hn)
comparison_is Eq m n e hm hn = elim (two_ways (nat_eq m n)) [
  | inl t ↦
      let is : m ≡ n = grind (arith, nat_tests) in
      let same : same_number (signed m) (signed n) ≡ true
      = ap (λ x. same_number (signed m) (signed x)) (sym is) ∙ same_itself (signed m) in
      ap (λ t. pattern (bool_as_number t)) same ∙ sym (ap bit t)
  | inr t ↦
      let apart : m ≢ n = grind (arith, nat_tests) in
      ap (λ t. pattern (bool_as_number t)) (signed_differ m n hm hn apart) ∙ sym (ap bit t)
]

taken_one : (p : PrimOp) (m n : ℕ) → compares p ≡ true
    → is_taken (kind_of (condition_one p)) m n ≡ compared p m n
taken_one Add m n e = absurd (cc)
taken_one Sub m n e = absurd (cc)
taken_one Mul m n e = absurd (cc)
taken_one Quot m n e = absurd (cc)
taken_one Rem m n e = absurd (cc)
taken_one Eq m n e = refl
taken_one Lt m n e = refl

taken_zero : (p : PrimOp) (m n : ℕ) → compares p ≡ true
    → is_taken (kind_of (condition_zero p)) m n ≡ not (compared p m n)
taken_zero Add m n e = absurd (cc)
taken_zero Sub m n e = absurd (cc)
taken_zero Mul m n e = absurd (cc)
taken_zero Quot m n e = absurd (cc)
taken_zero Rem m n e = absurd (cc)
taken_zero Eq m n e = refl
taken_zero Lt m n e = refl

bit_one : (t : Bool) → nat_eq (bit t) 1 ≡ t
bit_one true = refl
bit_one false = refl

bit_zero : (t : Bool) → nat_eq (bit t) 0 ≡ not t
bit_zero true = refl
bit_zero false = refl

twice : (t : Bool) → t ≡ not (not t)
twice true = refl
twice false = refl

-- a branch on the words of a comparison is taken where that gives this number, or where it gives
-- the other one
pub condition_tells : (p : PrimOp) (m n k : ℕ) → compares p ≡ true → m < 2 ^ 32 → n < 2 ^ 32 → k < 2
    → is_taken (kind_of (condition p k)) m n ≡ nat_eq (arithmetic p m n) k
condition_tells p m n zero e hm hn lt = taken_zero p m n e ∙ sym
    (ap (λ z. nat_eq z 0) (comparison_is p m n e hm hn) ∙ bit_zero (compared p m n))
condition_tells p m n (suc zero) e hm hn lt = taken_one p m n e ∙ sym
    (ap (λ z. nat_eq z 1) (comparison_is p m n e hm hn) ∙ bit_one (compared p m n))
condition_tells p m n (suc (suc k)) e hm hn lt = absurd (omega arith)

pub other_tells : (p : PrimOp) (m n k : ℕ) → compares p ≡ true → m < 2 ^ 32 → n < 2 ^ 32 → k < 2
    → is_taken (kind_of (other_condition p k)) m n ≡ not (nat_eq (arithmetic p m n) k)
other_tells p m n zero e hm hn lt =
    taken_one p m n e ∙ twice (compared p m n) ∙ sym
    (ap not (ap (λ z. nat_eq z 0) (comparison_is p m n e hm hn) ∙ bit_zero (compared p m n)))
other_tells p m n (suc zero) e hm hn lt = taken_zero p m n e ∙ sym
    (ap not (ap (λ z. nat_eq z 1) (comparison_is p m n e hm hn) ∙ bit_one (compared p m n)))
other_tells p m n (suc (suc k)) e hm hn lt = absurd (omega arith)

-- the operands of these operations may change places
pub arithmetic_turns : (p : PrimOp) (m n : ℕ) → is_free p ≡ true
    → arithmetic p m n ≡ arithmetic p n m
arithmetic_turns Add m n e = ap (λ z. pattern (wrap z)) (+ℤ_comm (signed m) (signed n))
arithmetic_turns Mul m n e = ap (λ z. pattern (wrap z)) (*ℤ_comm (signed m) (signed n))
arithmetic_turns Eq m n e = ap (λ t. pattern (bool_as_number t)) (same_turns (signed m) (signed n))
arithmetic_turns Sub m n e = absurd (cc)
arithmetic_turns Quot m n e = absurd (cc)
arithmetic_turns Rem m n e = absurd (cc)
arithmetic_turns Lt m n e = absurd (cc)

module _ (c : Stretch) (b : Bases) where
  -- one instruction on two registers
  by_one : (kind : OpKind) (r x y m n v : ℕ) (d : Data) → Good c b d → register_value d.regs x ≡ m
      → register_value d.regs y ≡ n → op_value kind m n < 2 ^ 32 → op_value kind m n ≡ v
      → Does c b (Op kind r x y ∷ []) d (with_reg d r v)
  by_one kind r x y m n v d g em en small is =
      does_op c b kind r x y v d g
      (ap (λ z. op_value kind z (register_value d.regs y)) em ∙ ap (op_value kind m) en ∙ is)
      (subst (λ z. z < 2 ^ 32) is small)

  -- a word below 1 is a truth
  tells : (r m v : ℕ) (d : Data) → Good c b d → 1 ≤ r → d.regs r ≡ m → bit (nat_lt m 1) ≡ v
      → Does c b (OpImm Sltiu r r (pos 1) ∷ []) d (with_reg d r v)
  tells r m v d g one e is =
      does_imm c b Sltiu r r (pos 1) v d g
      (ap (λ z. bit (nat_lt z 1)) (value_is d.regs r one ∙ e) ∙ is)
      (subst (λ z. z < 2 ^ 32) is (bit_small (nat_lt m 1)))

  pub operation_done : (p : PrimOp) (r x y m n : ℕ) (d : Data) → Good c b d → 1 ≤ r → x ≢ 7 → y ≢ 7
      → register_value d.regs x ≡ m → register_value d.regs y ≡ n
      → Does c b (operation p r x y) d (with_reg d r (arithmetic p m n))
  operation_done p r x y m n d g one nx ny em en = go p
    where
      hm : m < 2 ^ 32
      hm = subst (λ z. z < 2 ^ 32) em (g.small x nx)

      hn : n < 2 ^ 32
      hn = subst (λ z. z < 2 ^ 32) en (g.small y ny)

      go : (p : PrimOp) → Does c b (operation p r x y) d (with_reg d r (arithmetic p m n))
      go Add = by_one op.Add r x y m n (arithmetic Add m n) d g em en (omega arith)
          (operations_agree.add_is m n hm hn)
      go Sub = by_one op.Sub r x y m n (arithmetic Sub m n) d g em en (omega arith)
          (operations_agree.sub_is m n hm hn)
      go Mul = by_one op.Mul r x y m n (arithmetic Mul m n) d g em en (below (m * n))
          (operations_agree.mul_is m n hm hn)
        where
          below : (k : ℕ) → k % 2 ^ 32 < 2 ^ 32
          below k = omega arith
      go Quot = by_one op.Div r x y m n (arithmetic Quot m n) d g em en (divided_small m n hm)
          (operations_agree.div_is m n hm hn)
      go Rem = by_one op.Rem r x y m n (arithmetic Rem m n) d g em en (left_over_small m n hm)
          (operations_agree.rem_is m n hm hn)
      go Lt = by_one op.Slt r x y m n (arithmetic Lt m n) d g em en (bit_small (less_signed m n))
          (operations_agree.slt_is m n hm hn)
      go Eq =
          let first = by_one op.Sub r x y m n (minus m n) d g em en (omega arith) refl in
          let second = tells r (minus m n) (arithmetic Eq m n) (with_reg d r (minus m n)) first.good
          one (set_here d.regs r (minus m n)) (difference_tells m n hm hn) in
          does_to c b (does_on c b first second) (again d r (minus m n) (arithmetic Eq m n))

  pub immediate_done : (p : PrimOp) (r x m n : ℕ) (d : Data) → Good c b d → 1 ≤ r → x ≢ 7
      → n < 2 ^ 32 → is_immediate p n ≡ true → register_value d.regs x ≡ m
      → Does c b (immediate p r x n) d (with_reg d r (arithmetic p m n))
  immediate_done p r x m n d g one nx hn short em = go p short
    where
      hm : m < 2 ^ 32
      hm = subst (λ z. z < 2 ^ 32) em (g.small x nx)

      negated_small : negated n < 2 ^ 32
      negated_small = omega arith

      less : (k : ℕ) → k < 2 ^ 32 → is_short k ≡ true
          → plus (register_value d.regs x) (pattern (lower k)) ≡ plus m k
      less k lt s = ap (λ z. plus z (pattern (lower k))) em ∙ ap (plus m) (short_part k lt s)

      minus_is : plus m (negated n) ≡ minus m n
      minus_is = omega arith

      go : (p : PrimOp) → is_immediate p n ≡ true → Does c b (immediate p r x n) d
          (with_reg d r (arithmetic p m n))
      go Add s = does_imm c b Addi r x (lower n) (arithmetic Add m n) d g
          (less n hn s ∙ operations_agree.add_is m n hm hn)
          (subst (λ z. z < 2 ^ 32) (operations_agree.add_is m n hm hn) (omega arith))
      go Sub s =
          does_imm c b Addi r x (lower (negated n)) (arithmetic Sub m n) d g
          (less (negated n) negated_small s ∙ minus_is ∙ operations_agree.sub_is m n hm hn)
          (subst (λ z. z < 2 ^ 32) (operations_agree.sub_is m n hm hn) (omega arith))
      go Mul s = absurd (cc)
      go Quot s = absurd (cc)
      go Rem s = absurd (cc)
      go Lt s =
          does_imm c b Slti r x (lower n) (arithmetic Lt m n) d g
          (ap (λ z. bit (less_signed z (pattern (lower n)))) em ∙ ap
          (λ z. bit (less_signed m z)) (short_part n hn s) ∙ operations_agree.slt_is m n hm hn)
          (subst (λ z. z < 2 ^ 32) (operations_agree.slt_is m n hm hn)
          (bit_small (less_signed m n)))
      go Eq s = by_zero (nat_eq n 0) refl
        where
          by_zero : (t : Bool) → nat_eq n 0 ≡ t → Does c b
              (if t then OpImm Sltiu r x (pos 1) ∷ []
              else OpImm Addi r x (lower (negated n)) ∷ OpImm Sltiu r r (pos 1) ∷ []) d
              (with_reg d r (arithmetic Eq m n))
          by_zero true e =
              let none : n ≡ 0 = grind (arith, nat_tests) in
              let small = hm in
              let whole : minus m n ≡ m = omega arith in
              does_imm c b Sltiu r x (pos 1) (arithmetic Eq m n) d g
              (ap (λ z. bit (nat_lt z 1)) (em ∙ sym whole) ∙ difference_tells m n hm hn)
              (subst (λ z. z < 2 ^ 32) (difference_tells m n hm hn)
              (bit_small (nat_lt (minus m n) 1)))
          by_zero false e =
              let first = does_imm c b Addi r x (lower (negated n)) (minus m n) d g
              (less (negated n) negated_small s ∙ minus_is) (omega arith) in
              let second = tells r (minus m n) (arithmetic Eq m n) (with_reg d r (minus m n))
              first.good one (set_here d.regs r (minus m n)) (difference_tells m n hm hn) in
              does_to c b (does_on c b first second) (again d r (minus m n) (arithmetic Eq m n))
