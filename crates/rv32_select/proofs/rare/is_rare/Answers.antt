use Rattle.std.proofs.Common.{◌∙◌, sym}
use Rattle.low_code.specs.Tree.{end_of}
use Rattle.rv32_select.proofs.RarelyRun.{rare_block, rare_call, rare_on, rare_end}
use Rattle.rv32_select.proofs.rare.is_rare.Goals as goal

pub loop-stmt-init : goal.loop-stmt-init
loop-stmt-init c = rare_block c.args.block.now c.as_slice-stmt-items.result.now
    c.as_slice-stmt-items.ensures

pub loop-stmt-preserved : goal.loop-stmt-preserved
loop-stmt-preserved c =
    c.loop-stmt.invariant
    ∙ rare_on c.as_slice-stmt-items.result.now c.loop-stmt.stmt-index c.stmt-item.result
    (end_of c.args.block.now.last) c.calls.result c.loop-stmt-test.true c.stmt-item.is
    c.calls.ensures c.if-calls.false

pub returns-then-calls : goal.returns-then-calls
returns-then-calls c =
    sym (c.loop-stmt.invariant
    ∙ rare_call c.as_slice-stmt-items.result.now c.loop-stmt.stmt-index c.stmt-item.result
    (end_of c.args.block.now.last) c.calls.result c.loop-stmt-test.true c.stmt-item.is
    c.calls.ensures c.if-calls.true)

pub returns : goal.returns
returns c =
    c.fails.ensures
    ∙ sym (c.loop-stmt.invariant ∙ rare_end c.as_slice-stmt-items.result.now c.loop-stmt.stmt-index
    (end_of c.args.block.now.last) c.loop-stmt-test.false)
