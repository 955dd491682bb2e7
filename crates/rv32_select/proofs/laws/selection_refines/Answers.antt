use Rattle.rv32_select.proofs.SelectedRuns.{selected_items_do}
use Rattle.rv32_select.proofs.laws.selection_refines.Goals as goal

pub returns : goal.returns
returns c = selected_items_do
