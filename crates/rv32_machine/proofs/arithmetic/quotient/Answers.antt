use Rattle.std.proofs.Common.{◌<◌, FitsSigned, w32, arith, rules}
use Rattle.rv32_machine.proofs.Division.{quotient_code}
use Rattle.rv32_machine.proofs.arithmetic.quotient.Goals as goal

pub returns-else-b-eq0 : goal.returns-else-b-eq0
returns-else-b-eq0 c =
    let fits : FitsSigned w32 c.wrapping_div.result = search rules in
    let some : 0 < c.args.b = omega arith in
    quotient_code c.args.a c.args.b _ _ _ _ (omega arith) (omega arith) some c.cast_signed.ensures
    c.cast_signed-else-b-eq0.ensures c.wrapping_div.ensures c.cast_unsigned.ensures fits
