use Rattle.rv32_select.proofs.VariableUsed.{using_next, using_all}
use Rattle.rv32_select.proofs.decides.are_using.Goals as goal

pub loop-operand-preserved : goal.loop-operand-preserved
loop-operand-preserved c =
    using_next c.args.variable c.args.operands.now c.loop-operand.operand-index _
    c.loop-operand.found c.either-found.result c.is_var.result _ c.loop-operand-test.true
    c.is_var.ensures c.either-found.ensures c.loop-operand.invariant

pub returns : goal.returns
returns c = using_all c.args.variable c.args.operands.now c.loop-operand.operand-index
    c.loop-operand.found _ c.loop-operand-test.false c.loop-operand.invariant
