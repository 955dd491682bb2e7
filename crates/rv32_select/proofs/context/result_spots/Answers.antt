use Rattle.rv32_select.proofs.Sending.{results_pushed}
use Rattle.rv32_select.proofs.context.result_spots.Goals as goal

pub loop-i-preserved : goal.loop-i-preserved
loop-i-preserved c = results_pushed _ _ 10 c.loop-i.i c.args.n c.loop-i-test.true c.loop-i.invariant
    c.in_ok-push.ensures.items
