use Rattle.flow_system.specs.Shown.{tables_of, sink_of}
use Rattle.points_to.specs.Known.{held}
use Rattle.points_to.specs.Applied.{tag_applied}
use Rattle.points_to.proofs.Loops.{flat_next, flat_done}
use Rattle.points_to.proofs.ask.tags_applied.Goals as goal

pub loop-word-preserved : goal.loop-word-preserved
loop-word-preserved c = flat_next
    (tag_applied (tables_of c.args.system.now) (held c.args.facts.now) c.args.nodes.now.nodes
    c.args.a (sink_of c.args.sink.now)) _ _ _ _ _ _ c.loop-word-test.true c.loop-word.invariant
    c.in_ok-tag_applied.ensures

pub returns : goal.returns
returns c = flat_done
    (tag_applied (tables_of c.args.system.now) (held c.args.facts.now) c.args.nodes.now.nodes
    c.args.a (sink_of c.args.sink.now)) _ _ _ _ c.loop-word-test.false c.loop-word.invariant
