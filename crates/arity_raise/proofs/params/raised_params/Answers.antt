use Rattle.arity_raise.proofs.Fields.{one_param_more, params_done}
use Rattle.arity_raise.proofs.params.raised_params.Goals as goal

pub loop-at-preserved : goal.loop-at-preserved
loop-at-preserved c = one_param_more c.args.decisions.now c.args.params.now c.loop-at.at _ _ _ _
    c.loop-at-test.true c.decision_at.ensures c.in_ok-put_param.ensures c.loop-at.invariant

pub returns : goal.returns
returns c = params_done c.args.decisions.now c.args.params.now c.loop-at.at _ c.loop-at-test.false
    c.loop-at.invariant
