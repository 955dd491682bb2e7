use Rattle.std.proofs.Common.{ap, sym, ◌∙◌}
use Rattle.grin_measure.specs.Counts.{sum, of_cell}
use Rattle.grin_measure.proofs.Loops.{cells_next}
use Rattle.grin_measure.proofs.walk.cells.Goals as goal

pub loop-each-preserved : goal.loop-each-preserved
loop-each-preserved c =
    c.and-counts.ensures ∙ ap (λ n. sum n c.cell.result) c.loop-each.invariant ∙ ap (sum _)
    c.cell.ensures
    ∙ sym (cells_next c.args.cells.now c.loop-each.each-index _ c.loop-each-test.true
    c.each-item.is)
