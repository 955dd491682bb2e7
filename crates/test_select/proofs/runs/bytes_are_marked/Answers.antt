use Rattle.test_select.proofs.AreRows.{row_of, marks_row}
use Rattle.test_select.proofs.runs.bytes_are_marked.Goals as goal

pub exits-requires-clause-row : goal.exits-requires-clause-row
exits-requires-clause-row g c = row_of _ _ c.in_ok-low.ensures marks_row
