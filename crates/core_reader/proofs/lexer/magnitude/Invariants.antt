use Rattle.std.proofs.Common.{◌≡◌, ◌≤◌, drop}
use Rattle.core_reader.specs.WordsOf.{digits_from}
use Rattle.core_reader.proofs.lexer.magnitude.Given as goal

abbrev pub invariant-loop-digit : goal.invariant-loop-digit
invariant-loop-digit l = record {
  below : l.value ≤ 2147483648;
  same : digits_from l.value (drop l.digit-index l.digits) ≡
      digits_from 0 l.digits;
}
