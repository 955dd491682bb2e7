use Rattle.flow_system.specs.Shown.{tables_of}
use Rattle.points_to.specs.OneTag.{node_if_tag}
use Rattle.points_to.proofs.Loops.{flat_next, flat_done}
use Rattle.points_to.proofs.nodes.nodes_of_tag.Goals as goal

pub loop-word-preserved : goal.loop-word-preserved
loop-word-preserved c = flat_next
    (node_if_tag (tables_of c.args.system.now) c.args.t c.args.k c.args.items.now) _ _ _ _ _ _
    c.loop-word-test.true c.loop-word.invariant c.in_ok-node_if_tag.ensures

pub returns : goal.returns
returns c = flat_done (node_if_tag (tables_of c.args.system.now) c.args.t c.args.k c.args.items.now)
    _ _ _ _ c.loop-word-test.false c.loop-word.invariant
