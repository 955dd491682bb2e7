use Rattle.pass_cells.specs.Entries.{memories, is_cell}
use Rattle.pass_cells.proofs.Listed.{found_next, all_is}
use Rattle.pass_cells.proofs.memory.is_cell.Goals as goal

pub loop-entry-preserved : goal.loop-entry-preserved
loop-entry-preserved c = found_next _ _ _ _ _ _ c.loop-entry-test.true c.entry-item.is
    c.either-found.ensures c.loop-entry.invariant

pub returns : goal.returns
returns c = all_is (λ es. is_cell (memories es c.args.x.0)) _ _ _ c.loop-entry-test.false
    c.loop-entry.invariant
