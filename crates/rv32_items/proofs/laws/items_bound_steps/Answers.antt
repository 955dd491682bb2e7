use Rattle.rv32_items.proofs.Pace.{items_keep_pace}
use Rattle.rv32_items.proofs.laws.items_bound_steps.Goals as goal

pub returns : goal.returns
returns c = items_keep_pace
