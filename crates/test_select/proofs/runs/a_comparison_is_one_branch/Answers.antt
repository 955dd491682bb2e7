use Rattle.test_select.proofs.AreRows.{row_of, less_row}
use Rattle.test_select.proofs.runs.a_comparison_is_one_branch.Goals as goal

pub words-requires-clause-row : goal.words-requires-clause-row
words-requires-clause-row g c = row_of _ _ c.in_ok-low.ensures less_row

pub exits-requires-clause-row : goal.exits-requires-clause-row
exits-requires-clause-row g c = row_of _ _ c.in_ok-low.ensures less_row

pub exits-requires-2-clause-row : goal.exits-requires-2-clause-row
exits-requires-2-clause-row g c = row_of _ _ c.in_ok-low.ensures less_row
