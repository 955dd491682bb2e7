use Rattle.dead_store.specs.Holding.{set_holds}
use Rattle.dead_store.proofs.Rewriting.{one_more_becomes, bind_becomes, store_becomes}
use Rattle.dead_store.proofs.blocks.DeadCellRemover.+leave.Goals as goal

pub block-loop-stmt-preserved : goal.block-loop-stmt-preserved
block-loop-stmt-preserved t c = one_more_becomes (set_holds c.args.self.now.sites.now.keys)
    (set_holds c.args.self.now.gone.now.keys) _ _ _ _ c.loop-stmt.invariant c.in_ok-stmt.ensures

pub stmt-returns-in_ok-push-in-Bind : goal.stmt-returns-in_ok-push-in-Bind
stmt-returns-in_ok-push-in-Bind t c = λ b. bind_becomes (set_holds c.args.self.now.sites.now.keys)
    (set_holds c.args.self.now.gone.now.keys) c.args.made.now _ c.args.stmt c.in-Bind.target
    c.in_ok-bound-in-Bind.bound c.in-Bind.op b c.in-Bind.is c.in_ok-bound-in-Bind.ensures
    c.in_ok-push-in-Bind.ensures.ok

pub stmt-returns-in_ok-put_group-in-Store : goal.stmt-returns-in_ok-put_group-in-Store
stmt-returns-in_ok-put_group-in-Store t c = λ b. store_becomes
    (set_holds c.args.self.now.sites.now.keys) (set_holds c.args.self.now.gone.now.keys)
    c.args.made.now _ c.args.stmt c.in-Store.cells c.in_ok-kept-in-Store.kept b c.in-Store.is
    c.in_ok-kept-in-Store.ensures c.in_ok-put_group-in-Store.ensures
