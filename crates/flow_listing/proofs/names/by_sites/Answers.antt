use Rattle.flow_listing.proofs.Named.{names_more, names_done}
use Rattle.flow_listing.proofs.names.by_sites.Goals as goal

pub returns : goal.returns
returns c = names_done c.args.named.now c.loop-cell.cell-index _ c.loop-cell-test.false
    c.loop-cell.invariant

pub loop-cell-preserved : goal.loop-cell-preserved
loop-cell-preserved c = λ s. names_more c.args.named.now c.loop-cell.cell-index s _ _ _
    c.loop-cell-test.true (c.loop-cell.invariant s) (c.in_ok-note_name.ensures s)
