-- Numbers in instructions: what a register gets, and the sum of a register and a number.
use Rattle.std.proofs.Common.{◌≡◌, ◌≢◌, ℕ, suc, ◌-◌, ◌*◌, ◌/◌, ◌%◌, ◌^◌, ◌<◌, ◌≤◌, [], ◌∷◌, ◌++◌, Bool, true, false, inl, inr, refl, sym, ap, ◌∙◌, subst, arith}
use Rattle.std.specs.Prelude.{pos, negsuc, nat_eq, nat_lt, ◌||◌, if◌then◌else◌}
use Rattle.std.proofs.lemmas.Bool.Decides.{nat_tests}
use Rattle.seq.proofs.Order.{eq_false}
use Rattle.seq.proofs.Truth.{two_ways}
use Rattle.rv32_isa.specs.declared.instr.Instr.TheVariants.{Lui, OpImm, Op}
use Rattle.rv32_isa.specs.declared.instr.ImmKind.TheVariants.{Addi}
use Rattle.rv32_isa.specs.declared.instr.OpKind.TheVariants as op
use Rattle.rv32_machine.specs.Memory.{Stretch}
use Rattle.rv32_machine.specs.Arithmetic.{plus, pattern}
use Rattle.rv32_machine.specs.Steps.{set_reg}
use Rattle.rv32_steps.specs.Data.{Bases}
use Rattle.rv32_steps.specs.Straight.{register_value}
use Rattle.rv32_select.specs.Emit.{is_short, upper, load_constant, add_to}
use Rattle.rv32_select.proofs.Straight.{Data, with_reg, Good, Does, does_to, does_on, does_lui, does_imm, does_op}
use Rattle.rv32_machine.proofs.Registers.{set_there, set_again, set_here}
use Rattle.rv32_isa.specs.Bits.{lower}

pub ext : {f g : ℕ → ℕ} → ((q : ℕ) → f q ≡ g q) → f ≡ g
ext h = λ i. λ q. h q i

-- what a register reads as
pub value_is : (regs : ℕ → ℕ) (r : ℕ) → 1 ≤ r → register_value regs r ≡ regs r
value_is regs r h = ap (λ b. if b then 0 else regs r) (eq_false r 0 (omega arith))

pub set_same : (regs : ℕ → ℕ) (r : ℕ) → set_reg regs r (regs r) ≡ regs
set_same regs r = ext (λ q. at_each q)
  where
    at_each : (q : ℕ) → set_reg regs r (regs r) q ≡ regs q
    at_each q = elim (two_ways (nat_eq q r)) [
      | inl e ↦ ap (λ t. if t then regs r else regs q) e ∙ ap regs
          (let same : r ≡ q = grind (arith, nat_tests) in same)
      | inr e ↦ ap (λ t. if t then regs r else regs q) e
    ]

-- the data with eq_false registers
pub data_of : Data → (ℕ → ℕ) → Data
data_of d regs = record { regs = regs; heap = d.heap; stack = d.stack }

pub again : (d : Data) (r a b : ℕ) → with_reg (with_reg d r a) r b ≡ with_reg d r b
unfolding data_of
again d r a b = ap (data_of d) (set_again d.regs r a b)

pub nothing_set : (d : Data) (r : ℕ) → with_reg d r (d.regs r) ≡ d
unfolding data_of
nothing_set d r = ap (data_of d) (set_same d.regs r)

-- ---- the two parts of a number

-- the parts of n give back its sum with a number
pub parts_sum : (n x : ℕ) → n < 2 ^ 32 → plus (plus (upper n * 4096) x) (pattern (lower n)) ≡ plus n
    x
parts_sum n x lt = elim (two_ways (nat_lt (n % 4096) (4096 / 2))) [
  | inl t ↦
      let small : n % 4096 < 2048 = grind (arith, nat_tests) in
      let there : plus (plus (upper n * 4096) x) (n % 4096) ≡ plus n x = omega arith in
      ap (λ b. plus (plus (upper n * 4096) x)
      (pattern (if b then pos (n % 4096) else negsuc (4096 - suc (n % 4096))))) t ∙ there
  | inr t ↦
      let large : 2048 ≤ n % 4096 = grind (arith, nat_tests) in
      let there : plus (plus (upper n * 4096) x) (2 ^ 32 - suc (4096 - suc (n % 4096))) ≡ plus n x
      = omega arith in
      ap (λ b. plus (plus (upper n * 4096) x)
      (pattern (if b then pos (n % 4096) else negsuc (4096 - suc (n % 4096))))) t ∙ there
]

pub parts_join : (n : ℕ) → n < 2 ^ 32 → plus (upper n * 4096) (pattern (lower n)) ≡ n
parts_join n lt =
    let high : plus (upper n * 4096) 0 ≡ upper n * 4096 = omega arith in
    ap (λ x. plus x (pattern (lower n))) (sym high) ∙ parts_sum n 0 lt ∙ omega arith

-- a short number is its lower part
pub short_part : (n : ℕ) → n < 2 ^ 32 → is_short n ≡ true → pattern (lower n) ≡ n
short_part n lt short = elim (two_ways (nat_lt n 2048)) [
  | inl t ↦
      let small : n < 2048 = grind (arith, nat_tests) in
      let low : nat_lt (n % 4096) (4096 / 2) ≡ true = let h : n % 4096 < 2048 = omega arith
      in grind (arith, nat_tests) in
      ap (λ b. pattern (if b then pos (n % 4096) else negsuc (4096 - suc (n % 4096)))) low ∙ omega
      arith
  | inr t ↦
      let other_one : nat_lt 4294965247 n ≡ true = sym (ap (λ b. b || nat_lt 4294965247 n) t) ∙
      short in
      let large : 4294965247 < n = grind (arith, nat_tests) in
      let high : nat_lt (n % 4096) (4096 / 2) ≡ false = let h : 2048 ≤ n % 4096 = omega arith
      in grind (arith, nat_tests) in
      ap (λ b. pattern (if b then pos (n % 4096) else negsuc (4096 - suc (n % 4096)))) high ∙ omega
      arith
]

module _ (c : Stretch) (b : Bases) where
  long_number : (r n : ℕ) (d : Data) → Good c b d → 1 ≤ r → n < 2 ^ 32 → (t : Bool)
      → nat_eq (n % 4096) 0 ≡ t → Does c b
      (Lui r (upper n) ∷ (if t then [] else OpImm Addi r r (lower n) ∷ [])) d (with_reg d r n)
  long_number r n d g one lt true e =
      let none : n % 4096 ≡ 0 = grind (arith, nat_tests) in
      let whole : upper n * 4096 ≡ n = omega arith in
      does_to c b (does_lui c b r (upper n) d g (omega arith)) (ap (with_reg d r) whole)
  long_number r n d g one lt false e =
      let first = does_lui c b r (upper n) d g (omega arith) in
      let here : register_value (set_reg d.regs r (upper n * 4096)) r ≡ upper n * 4096
      = value_is (set_reg d.regs r (upper n * 4096)) r one ∙ set_here d.regs r (upper n * 4096)
      in
      let sum : plus (register_value (set_reg d.regs r (upper n * 4096)) r) (pattern (lower n)) ≡ n
      = ap (λ x. plus x (pattern (lower n))) here ∙ parts_join n lt in
      let second = does_imm c b Addi r r (lower n) n (with_reg d r (upper n * 4096)) first.good sum
      lt in
      does_to c b (does_on c b first second) (again d r (upper n * 4096) n)

  -- a register gets a number
  pub does_number : (r n : ℕ) (d : Data) → Good c b d → 1 ≤ r → n < 2 ^ 32
      → Does c b (load_constant r n) d (with_reg d r n)
  does_number r n d g one lt = by_length (is_short n) refl
    where
      by_length : (t : Bool) → is_short n ≡ t → Does c b
          (if t then OpImm Addi r 0 (lower n) ∷ [] else Lui r (upper n) ∷
          (if nat_eq (n % 4096) 0 then [] else OpImm Addi r r (lower n) ∷ [])) d (with_reg d r n)
      by_length true e =
          let sum : plus 0 (pattern (lower n)) ≡ n = ap (plus 0) (short_part n lt e) ∙ omega arith
          in
          does_imm c b Addi r 0 (lower n) n d g sum lt
      by_length false e = long_number r n d g one lt (nat_eq (n % 4096) 0) refl

  -- a register gets the sum of another one and a number; x5 may change on the way
  pub record Added (r q n : ℕ) (d : Data) : Type 0 where
    pub scratch : ℕ
    pub does : Does c b (add_to r q n) d (with_reg (with_reg d 5 scratch) r (plus (d.regs q) n))

  pub does_add : (r q n : ℕ) (d : Data) → Good c b d → 1 ≤ q → q ≢ 5 → n < 2 ^ 32 → Added r q n d
  does_add r q n d g one ne lt = elim (two_ways (is_short n)) [
    | inl e ↦
        let sum : plus (register_value d.regs q) (pattern (lower n)) ≡ plus (d.regs q) n
        = ap (λ x. plus x (pattern (lower n))) (value_is d.regs q one) ∙ ap (plus (d.regs q))
        (short_part n lt e) in
        let short = does_to c b
        (does_imm c b Addi r q (lower n) (plus (d.regs q) n) d g sum (omega arith))
        (ap (λ x. with_reg x r (plus (d.regs q) n)) (sym (nothing_set d 5))) in
        record {
          scratch = d.regs 5;
          does = subst
              (λ t. Does c b
              (if t then OpImm Addi r q (lower n) ∷ [] else load_constant 5 n
              ++ Op op.Add r q 5 ∷ [])
              d (with_reg (with_reg d 5 (d.regs 5)) r (plus (d.regs q) n))) (sym e) short;
        }
    | inr e ↦
        let first = does_number 5 n d g (omega arith) lt in
        let d1 = with_reg d 5 n in
        let left : register_value d1.regs q ≡ d.regs q
        = value_is d1.regs q one ∙ set_there d.regs 5 n q ne in
        let second = does_op c b op.Add r q 5 (plus (d.regs q) n) d1 first.good
        (ap (λ x. plus x n) left) (omega arith) in
        record {
          scratch = n;
          does = subst
              (λ t. Does c b
              (if t then OpImm Addi r q (lower n) ∷ [] else load_constant 5 n
              ++ Op op.Add r q 5 ∷ [])
              d (with_reg d1 r (plus (d.regs q) n))) (sym e) (does_on c b first second);
        }
  ]
