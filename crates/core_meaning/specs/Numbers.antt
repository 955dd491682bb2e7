-- The seven operations on numbers.
use Rattle.std.specs.Prelude.{ℤ}
use Rattle.arity_check.specs.declared.normal.PrimOp.{PrimOp}
use Rattle.arity_check.specs.declared.normal.PrimOp.TheVariants.{Add, Sub, Mul, Quot, Rem, Eq, Lt}
use Rattle.numbers.specs.Numbers.{sum, difference, product, quotient, remainder, equal, less}

abbrev pub primitive_result : PrimOp → ℤ → ℤ → ℤ
primitive_result Add a b = sum a b
primitive_result Sub a b = difference a b
primitive_result Mul a b = product a b
primitive_result Quot a b = quotient a b
primitive_result Rem a b = remainder a b
primitive_result Eq a b = equal a b
primitive_result Lt a b = less a b
