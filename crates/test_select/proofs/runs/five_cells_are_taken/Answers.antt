use Rattle.test_select.proofs.AreRows.{row_of, takes_row}
use Rattle.test_select.proofs.runs.five_cells_are_taken.Goals as goal

pub exits-requires-clause-row : goal.exits-requires-clause-row
exits-requires-clause-row g c = row_of _ _ c.in_ok-low.ensures takes_row
