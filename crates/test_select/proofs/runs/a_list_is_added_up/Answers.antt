use Rattle.test_select.proofs.AreRows.{row_of, sums_row}
use Rattle.test_select.proofs.runs.a_list_is_added_up.Goals as goal

pub exits-requires-clause-row : goal.exits-requires-clause-row
exits-requires-clause-row g c = row_of _ _ c.in_ok-low.ensures sums_row
