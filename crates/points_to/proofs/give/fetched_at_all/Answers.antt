use Rattle.flow_system.specs.Shown.{tables_of}
use Rattle.points_to.specs.Known.{held}
use Rattle.points_to.specs.Held.{fetched_at}
use Rattle.points_to.proofs.Loops.{flat_next, flat_done}
use Rattle.points_to.proofs.give.fetched_at_all.Goals as goal

pub loop-word-preserved : goal.loop-word-preserved
loop-word-preserved c = flat_next
    (fetched_at (tables_of c.args.system.now) (held c.args.facts.now) c.args.i) _ _ _ _ _ _
    c.loop-word-test.true c.loop-word.invariant c.in_ok-fetched_at.ensures

pub returns : goal.returns
returns c = flat_done (fetched_at (tables_of c.args.system.now) (held c.args.facts.now) c.args.i) _
    _ _ _ c.loop-word-test.false c.loop-word.invariant
