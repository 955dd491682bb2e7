use Rattle.test_machine.proofs.Asked.{asked_of, dead_target_asked}
use Rattle.test_machine.proofs.places.a_dead_target_is_apart_from_live_ones.Goals as goal

pub allots-requires-clause-asked : goal.allots-requires-clause-asked
allots-requires-clause-asked g c = asked_of _ _ _ _ c.in_ok-low.ensures dead_target_asked
