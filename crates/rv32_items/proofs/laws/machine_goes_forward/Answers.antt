use Rattle.rv32_items.proofs.Forward.{items_go_forward}
use Rattle.rv32_items.proofs.laws.machine_goes_forward.Goals as goal

pub returns : goal.returns
returns c = items_go_forward
