use Rattle.flow_system.specs.Shown.{tables_of}
use Rattle.points_to.specs.Known.{held}
use Rattle.points_to.specs.Held.{done_items, cell_items}
use Rattle.points_to.proofs.Loops.{flat_next, flat_done}
use Rattle.points_to.proofs.give.done_at_all.Goals as goal

pub loop-word-preserved : goal.loop-word-preserved
loop-word-preserved c = flat_next
    (λ w. done_items (tables_of c.args.system.now) (cell_items (held c.args.facts.now) w)) _ _ _ _ _
    _ c.loop-word-test.true c.loop-word.invariant c.in_ok-done_at.ensures

pub returns : goal.returns
returns c = flat_done
    (λ w. done_items (tables_of c.args.system.now) (cell_items (held c.args.facts.now) w)) _ _ _ _
    c.loop-word-test.false c.loop-word.invariant
