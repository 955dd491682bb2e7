use Rattle.match_compile.proofs.Compiled.{turned, all_turned}
use Rattle.match_compile.proofs.compile.reversed.Goals as goal

pub decisions-preserved : goal.decisions-preserved
decisions-preserved c = turned c.decisions.decisions c.pop.new.self c.in-Some.decision
    c.decisions.made c.push.new.self c.args.decisions c.in-Some.ensures c.in_ok-push.ensures.ok
    c.decisions.invariant

pub returns : goal.returns
returns c = all_turned c.decisions.decisions c.decisions.made c.args.decisions
    c.in_default.ensures.0 c.decisions.invariant
