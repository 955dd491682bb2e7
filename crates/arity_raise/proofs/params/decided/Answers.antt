use Rattle.arity_raise.proofs.Fields.{decided_here, decided_later, decided_nowhere}
use Rattle.arity_raise.proofs.params.decided.Goals as goal

pub returns-then-is_same : goal.returns-then-is_same
returns-then-is_same c = decided_here c.args.decisions.now c.args.params.now c.args.x.0 c.loop-at.at
    _ _ _ c.loop-at-test.true c.is_same.ensures c.if-is_same.true c.decision_at.ensures
    c.loop-at.invariant

pub loop-at-preserved : goal.loop-at-preserved
loop-at-preserved c = decided_later c.args.decisions.now c.args.params.now c.args.x.0 c.loop-at.at _
    _ c.loop-at-test.true c.is_same.ensures c.if-is_same.false c.loop-at.invariant

pub returns : goal.returns
returns c = decided_nowhere c.args.decisions.now c.args.params.now c.args.x.0 c.loop-at.at
    c.loop-at-test.false c.loop-at.invariant
