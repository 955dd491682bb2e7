use Rattle.points_to.specs.Asked.{cell_facts}
use Rattle.points_to.proofs.Loops.{flat_next, flat_done}
use Rattle.points_to.proofs.ask.cells_facts.Goals as goal

pub loop-word-preserved : goal.loop-word-preserved
loop-word-preserved c = flat_next (cell_facts c.args.nodes.now) _ _ _ _ _ _ c.loop-word-test.true
    c.loop-word.invariant c.in_ok-cell_facts.ensures

pub returns : goal.returns
returns c = flat_done (cell_facts c.args.nodes.now) _ _ _ _ c.loop-word-test.false
    c.loop-word.invariant
