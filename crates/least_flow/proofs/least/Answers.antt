use Rattle.least_flow.proofs.Solved.{least_is}
use Rattle.least_flow.proofs.least.Goals as goal

pub returns : goal.returns
returns c = least_is _ _ _ _ c.in_ok-system.ensures.tables c.in_ok-system.ensures.inclusions
    c.in_ok-flow.ensures
