use Rattle.std.proofs.Common.{drop, ◌+◌, ◌*◌, ◌-◌, arith}
use Rattle.std.specs.Prelude.{slice_index}
use Rattle.core_reader.proofs.Lexing.{at_least, next_digit}
use Rattle.core_reader.proofs.lexer.magnitude.Goals as goal

pub returns-then-value-gt-LARGEST : goal.returns-then-value-gt-LARGEST
returns-then-value-gt-LARGEST c =
    let digits = c.args.digits.now in
    let h = next_digit c.loop-digit.value c.loop-digit.digit-index digits (omega arith) in
    let least = at_least
    (10 * c.loop-digit.value + (slice_index digits c.loop-digit.digit-index - 48))
    (drop (c.loop-digit.digit-index + 1) digits) in
    omega (arith, least, h, c.loop-digit.invariant.same, c.saturating_sub.ensures)
