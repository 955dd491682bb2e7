use Rattle.std.proofs.Common.{rules}
use Rattle.points_to.specs.Found.{found}
use Rattle.unbox.proofs.Numbered.{no_ties, ties_next, ties_done}
use Rattle.unbox.proofs.ties.ties.Goals as goal

pub loop-proc-init : goal.loop-proc-init
loop-proc-init c = no_ties _ _ c.new-made.ensures

pub loop-proc-preserved : goal.loop-proc-preserved
loop-proc-preserved c =
    ties_next (found c.args.flow.now) _ _ _ _ _ _ _ _ _ c.loop-proc-test.true c.proc-item.is
    (search rules) c.in_ok-tie.ensures c.in_ok-push.ensures.ok c.in_ok-block_ties.ensures
    c.loop-proc.invariant

pub returns : goal.returns
returns c = ties_done (found c.args.flow.now) _ _ _ _ c.loop-proc-test.false c.loop-proc.invariant
