use Rattle.arity_raise.proofs.Chosen.{none_stay, one_stays_more, all_stay_done}
use Rattle.arity_raise.proofs.decide.all_stay.Goals as goal

pub loop-at-init : goal.loop-at-init
loop-at-init c = rw c.new-made.ensures none_stay

pub loop-at-preserved : goal.loop-at-preserved
loop-at-preserved c = one_stays_more c.args.params.now c.loop-at.at (record { 0 = 0 }) _ _
    c.loop-at-test.true c.in_ok-push.ensures.ok c.loop-at.invariant

pub returns : goal.returns
returns c = all_stay_done c.args.params.now c.loop-at.at _ c.loop-at-test.false c.loop-at.invariant
