use Rattle.test_select.proofs.AreRows.{row_of, stuck_row}
use Rattle.test_select.proofs.runs.a_program_without_an_alternative.Goals as goal

pub exits-requires-clause-row : goal.exits-requires-clause-row
exits-requires-clause-row g c = row_of _ _ c.in_ok-low.ensures stuck_row
