-- The default heap and stack are within the limits.
use Rattle.std.proofs.Common.{arith}
use Rattle.grin_driver.proofs.code.list_code.Goals as goal

pub listed_code-requires : goal.listed_code-requires
listed_code-requires g c = record {
  some_cells = omega arith;
  few_cells = omega arith;
  some_stack = omega arith;
  small_stack
      = omega arith;
}
