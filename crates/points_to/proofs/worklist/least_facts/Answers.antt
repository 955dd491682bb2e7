use Rattle.flow_system.specs.Shown.{tables_of, inclusions_of}
use Rattle.points_to.proofs.UntilNoneWaits.{least_when_none_waits}
use Rattle.points_to.proofs.worklist.least_facts.Goals as goal

pub returns : goal.returns
returns c = least_when_none_waits (tables_of c.args.system.now) (inclusions_of c.args.system.now)
    c.turns.list c.turns.invariant.stands (c.turns.invariant.done c.turns-test.false)
