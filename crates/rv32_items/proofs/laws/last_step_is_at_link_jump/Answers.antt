use Rattle.rv32_items.proofs.LastStep.{items_leave, stops_are_behind, stops_are_last}
use Rattle.rv32_items.proofs.laws.last_step_is_at_link_jump.Goals as goal

pub returns : goal.returns
returns c = record { left = items_leave; behind = stops_are_behind; last = stops_are_last }
