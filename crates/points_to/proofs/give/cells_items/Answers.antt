use Rattle.points_to.specs.Known.{held}
use Rattle.points_to.specs.Held.{cell_items}
use Rattle.points_to.proofs.Loops.{flat_next, flat_done}
use Rattle.points_to.proofs.give.cells_items.Goals as goal

pub loop-word-preserved : goal.loop-word-preserved
loop-word-preserved c = flat_next (cell_items (held c.args.facts.now)) _ _ _ _ _ _
    c.loop-word-test.true c.loop-word.invariant c.in_ok-cell_items.ensures

pub returns : goal.returns
returns c = flat_done (cell_items (held c.args.facts.now)) _ _ _ _ c.loop-word-test.false
    c.loop-word.invariant
