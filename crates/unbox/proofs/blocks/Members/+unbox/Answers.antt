use Rattle.unbox_theory.specs.Ends.{is_member}
use Rattle.unbox.proofs.Loops.{one_more_becomes}
use Rattle.unbox.proofs.Boxing.{puts_cells, puts_bound}
use Rattle.unbox.proofs.blocks.Members.+unbox.Goals as goal

pub block-loop-stmt-preserved : goal.block-loop-stmt-preserved
block-loop-stmt-preserved t c = one_more_becomes _ _ _ _ _ c.loop-stmt.invariant
    c.in_ok-stmt.ensures

pub stmt-returns-in_ok-push-in-Store : goal.stmt-returns-in_ok-push-in-Store
stmt-returns-in_ok-push-in-Store t c = puts_cells (is_member c.args.self.now.inside) _ _ c.args.stmt
    c.in-Store.cells c.in-Store.is c.in_ok-push-in-Store.ensures.ok

pub stmt-returns-in_ok-put_bound-in-Bind : goal.stmt-returns-in_ok-put_bound-in-Bind
stmt-returns-in_ok-put_bound-in-Bind t c =
    puts_bound (is_member c.args.self.now.inside) _ _ c.args.stmt c.in-Bind.target c.in-Bind.op _ _
    c.in-Bind.is c.op_calls-bare.ensures c.in_ok-made-in-Bind.ensures
    c.in_ok-put_bound-in-Bind.ensures
