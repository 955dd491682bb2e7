use Rattle.std.proofs.Common.{rules}
use Rattle.pass_flat.proofs.Loops.{one_more_becomes, store_becomes, bind_becomes, block_flat}
use Rattle.pass_flat.proofs.blocks.+flat.Goals as goal

pub put_block-loop-stmt-preserved : goal.put_block-loop-stmt-preserved
put_block-loop-stmt-preserved t c = one_more_becomes _ _ _ _ _ c.loop-stmt.invariant
    c.in_ok-put_stmt.ensures

pub put_stmt-returns-in_ok-push-in-Store : goal.put_stmt-returns-in_ok-push-in-Store
put_stmt-returns-in_ok-push-in-Store t c = λ b r. store_becomes c.args.made.now _ c.args.stmt
    c.in-Store.cells b r c.in-Store.is c.in_ok-push-in-Store.ensures.ok

pub put_stmt-returns-in_ok-push-in-Bind : goal.put_stmt-returns-in_ok-push-in-Bind
put_stmt-returns-in_ok-push-in-Bind t c =
    λ b r. bind_becomes c.args.made.now _ _ c.args.stmt c.in-Bind.target c.in-Bind.op
    c.in_ok-last-in-Bind.last b r c.in-Bind.is c.in_ok-last-in-Bind.ensures
    c.in_ok-push-in-Bind.ensures.ok

pub flat_block-returns : goal.flat_block-returns
flat_block-returns t c = block_flat _ c.args.block _ _ _ c.in_ok-last.ensures (search rules)
    (search rules) (search rules)
