use Rattle.fetch_passes.proofs.Grows.{front_next}
use Rattle.fetch_passes.proofs.nodes.front.Goals as goal

pub loop-wait-preserved : goal.loop-wait-preserved
loop-wait-preserved c = front_next _ _ _ _ c.args.waits.now c.loop-wait.wait-index
    (record { var = record { 0 = 0 }; place = 0 }) _ _ _ _ _ _ c.loop-wait-test.true
    c.loop-wait.invariant c.in_ok-front_word.ensures.stmts c.in_ok-front_word.ensures.names
    c.in_ok-front_word.ensures.next
