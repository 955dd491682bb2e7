use Rattle.test_select.proofs.AreRows.{row_of, nests_row}
use Rattle.test_select.proofs.runs.frames_of_1024_bytes.Goals as goal

pub exits-requires-clause-row : goal.exits-requires-clause-row
exits-requires-clause-row g c = row_of _ _ c.in_ok-low.ensures nests_row
