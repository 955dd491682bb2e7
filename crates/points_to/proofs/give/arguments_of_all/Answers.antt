use Rattle.flow_system.specs.Shown.{tables_of}
use Rattle.points_to.specs.Known.{held}
use Rattle.points_to.specs.Held.{arguments_of}
use Rattle.points_to.proofs.Loops.{flat_next, flat_done}
use Rattle.points_to.proofs.give.arguments_of_all.Goals as goal

pub loop-word-preserved : goal.loop-word-preserved
loop-word-preserved c = flat_next
    (arguments_of (tables_of c.args.system.now) (held c.args.facts.now) c.args.t c.args.words.now
    c.args.items.now) _ _ _ _ _ _ c.loop-word-test.true c.loop-word.invariant
    c.in_ok-arguments_of.ensures

pub returns : goal.returns
returns c = flat_done
    (arguments_of (tables_of c.args.system.now) (held c.args.facts.now) c.args.t c.args.words.now
    c.args.items.now) _ _ _ _ c.loop-word-test.false c.loop-word.invariant
