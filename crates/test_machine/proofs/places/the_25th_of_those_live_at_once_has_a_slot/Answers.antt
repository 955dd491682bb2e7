use Rattle.test_machine.proofs.Asked.{asked_of, crowded_asked}
use Rattle.test_machine.proofs.places.the_25th_of_those_live_at_once_has_a_slot.Goals as goal

pub allots-requires-clause-asked : goal.allots-requires-clause-asked
allots-requires-clause-asked g c = asked_of _ _ _ _ c.in_ok-low.ensures crowded_asked
