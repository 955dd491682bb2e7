use Rattle.test_select.proofs.AreRows.{row_of, sums_row}
use Rattle.test_select.proofs.runs.return_addresses_in_frames.Goals as goal

pub words-requires-clause-row : goal.words-requires-clause-row
words-requires-clause-row g c = row_of _ _ c.in_ok-low.ensures sums_row
