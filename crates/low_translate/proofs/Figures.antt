-- Numbers of 32 bits as patterns.
use Rattle.std.proofs.Common.{◌≡◌, ◌≤◌, ◌^◌, ◌%◌, ℕ, ℤ, pos, negsuc, zero, suc, ◌-◌, Bool, true, false, cond, refl, ap, ◌∙◌, arith, rules, lit<}
use Rattle.std.specs.Prelude.{unsigned_abs, int_rem, int_div, if◌then◌else◌, neg_ℤ, FitsSigned}
use Rattle.std.specs.Int.{w32, int_wrap}
use Rattle.std.proofs.Math.Nat.{mod-le}
use Rattle.std.proofs.lemmas.Bool.{lt-ltb, le-ltb}
use Rattle.std.proofs.lemmas.Int.{SFits-int_wrap}
use Rattle.numbers.specs.Numbers.{pattern, signed, low_byte, quotient, remainder, bool_as_number, same_number, wrap}
use Rattle.grin_syntax.specs.declared.program.PrimOp as G
use Rattle.grin_syntax.specs.declared.program.PrimOp.TheVariants as grin_op
use Rattle.grin_meaning.specs.Run as grin
use Rattle.low_code.specs.Arithmetic as low
use Rattle.low_translate.specs.Translation.{operation_of}
use Rattle.low_translate.specs.Lowered.{Has32Bits}

pub signed_pattern : (k : ℤ) → Has32Bits k → signed (pattern k) ≡ k
signed_pattern (pos n) h = ap (λ b. cond b (pos n) (negsuc (2 ^ 32 - suc n))) (lt-ltb n (2 ^ 31) h)
signed_pattern (negsuc n) h =
    let le : 2 ^ 31 ≤ 2 ^ 32 - suc n = omega (arith, h) in
    let e : 2 ^ 32 - suc (2 ^ 32 - suc n) ≡ n = omega (arith, h) in
    ap (λ b. cond b (pos (2 ^ 32 - suc n)) (negsuc (2 ^ 32 - suc (2 ^ 32 - suc n))))
    (le-ltb (2 ^ 32 - suc n) (2 ^ 31) le) ∙ ap negsuc e

pub low_of_pattern : (k : ℤ) → Has32Bits k → pattern k % 256 ≡ low_byte k
low_of_pattern (pos n) h = refl
low_of_pattern (negsuc n) h = omega arith

operate_same : (f : G.PrimOp) (a b : ℤ) → low.primitive_result (operation_of f) a b ≡
    grin.arithmetic f a b
operate_same grin_op.Add a b = refl
operate_same grin_op.Sub a b = refl
operate_same grin_op.Mul a b = refl
operate_same grin_op.Quot a b = refl
operate_same grin_op.Rem a b = refl
operate_same grin_op.Eq a b = refl
operate_same grin_op.Lt a b = refl

pub arithmetic_same : (f : G.PrimOp) (a b : ℤ) → Has32Bits a → Has32Bits b
    → low.arithmetic (operation_of f) (pattern a) (pattern b) ≡ pattern (grin.arithmetic f a b)
arithmetic_same f a b ha hb =
    (λ i. pattern
    (low.primitive_result (operation_of f) (signed_pattern a ha i) (signed_pattern b hb i))) ∙ ap
    pattern (operate_same f a b)

-- ---- the results have 32 bits

wrap_has : (z : ℤ) → Has32Bits (wrap z)
wrap_has z = fits (int_wrap w32 z) (SFits-int_wrap w32 z)
  where
    fits : (k : ℤ) → FitsSigned w32 k → Has32Bits k
    fits (pos n) h = first_of (omega (arith, h), search (rules, h), grind (arith, h))
    fits (negsuc n) h = first_of (omega (arith, h), search (rules, h), grind (arith, h))

truth_has : (b : Bool) → Has32Bits (bool_as_number b)
truth_has true = lit< tt
truth_has false = lit< tt

turned_has : (n : ℕ) → n ≤ 2 ^ 31 → Has32Bits (neg_ℤ (pos n))
turned_has zero h = lit< tt
turned_has (suc n) h = omega (arith, h)

remainder_has : (a b : ℤ) → Has32Bits a → Has32Bits (remainder a b)
remainder_has a b h = go (same_number b (pos 0))
  where
    int_rem_has : (a b : ℤ) → Has32Bits a → Has32Bits (int_rem a b)
    int_rem_has (pos n) b h = let m = mod-le n (unsigned_abs b) in omega (arith, m, h)
    int_rem_has (negsuc n) b h = turned_has (suc n % unsigned_abs b)
        (let m = mod-le (suc n) (unsigned_abs b) in omega (arith, m, h))

    go : (t : Bool) → Has32Bits (if t then a else int_rem a b)
    go true = h
    go false = int_rem_has a b h

quotient_has : (a b : ℤ) → Has32Bits (quotient a b)
quotient_has a b = go (same_number b (pos 0))
  where
    go : (t : Bool) → Has32Bits (if t then negsuc 0 else wrap (int_div a b))
    go true = lit< tt
    go false = wrap_has (int_div a b)

pub arithmetic_has : (f : G.PrimOp) (a b : ℤ) → Has32Bits a → Has32Bits b
    → Has32Bits (grin.arithmetic f a b)
arithmetic_has grin_op.Add a b ha hb = wrap_has _
arithmetic_has grin_op.Sub a b ha hb = wrap_has _
arithmetic_has grin_op.Mul a b ha hb = wrap_has _
arithmetic_has grin_op.Quot a b ha hb = quotient_has a b
arithmetic_has grin_op.Rem a b ha hb = remainder_has a b ha
arithmetic_has grin_op.Eq a b ha hb = truth_has _
arithmetic_has grin_op.Lt a b ha hb = truth_has _
