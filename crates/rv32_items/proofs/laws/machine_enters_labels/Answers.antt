use Rattle.rv32_items.proofs.Enters.{items_enter}
use Rattle.rv32_items.proofs.laws.machine_enters_labels.Goals as goal

pub returns : goal.returns
returns c = items_enter
