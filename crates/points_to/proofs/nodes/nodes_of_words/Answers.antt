use Rattle.flow_system.specs.Shown.{tables_of}
use Rattle.points_to.specs.Held.{node_of_word}
use Rattle.points_to.proofs.Loops.{flat_next, flat_done}
use Rattle.points_to.proofs.nodes.nodes_of_words.Goals as goal

pub loop-word-preserved : goal.loop-word-preserved
loop-word-preserved c = flat_next
    (node_of_word (tables_of c.args.system.now) c.args.k c.args.items.now) _ _ _ _ _ _
    c.loop-word-test.true c.loop-word.invariant c.in_ok-node_of_word.ensures

pub returns : goal.returns
returns c = flat_done (node_of_word (tables_of c.args.system.now) c.args.k c.args.items.now) _ _ _ _
    c.loop-word-test.false c.loop-word.invariant
