use Rattle.rv32_items.proofs.Reached.{items_show, items_are_reached}
use Rattle.rv32_items.proofs.laws.machine_matches_items.Goals as goal

pub returns : goal.returns
returns c = record { show = items_show; reached = items_are_reached }
