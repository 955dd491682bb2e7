-- The seven operations on patterns of 32 bits.
use Rattle.std.specs.Prelude.{ℕ, ℤ}
use Rattle.numbers.specs.Numbers.{signed, pattern, sum, difference, product, quotient, remainder, equal, less}
use Rattle.low_code.specs.declared.program.PrimOp.{PrimOp}
use Rattle.low_code.specs.declared.program.PrimOp.TheVariants.{Add, Sub, Mul, Quot, Rem, Eq, Lt}

-- on the numbers that the patterns stand for
abbrev pub primitive_result : PrimOp → ℤ → ℤ → ℤ
primitive_result Add a b = sum a b
primitive_result Sub a b = difference a b
primitive_result Mul a b = product a b
primitive_result Quot a b = quotient a b
primitive_result Rem a b = remainder a b
primitive_result Eq a b = equal a b
primitive_result Lt a b = less a b

abbrev pub arithmetic : PrimOp → ℕ → ℕ → ℕ
arithmetic f a b = pattern (primitive_result f (signed a) (signed b))
