use Rattle.std.proofs.Common.{arith}
use Rattle.unbox.proofs.Sweeping.{none_in, one_more_in, all_within}
use Rattle.unbox.proofs.members.all_inside.Goals as goal

pub loop-init : goal.loop-init
loop-init c = none_in _ c.new-inside.ensures

pub loop-preserved : goal.loop-preserved
loop-preserved c = one_more_in _ _ _ c.in_ok-push.ensures.ok c.loop.invariant

pub returns : goal.returns
returns c = all_within _ _ _ c.loop.invariant (omega arith)
