use Rattle.test_machine.proofs.Asked.{asked_of, two_asked}
use Rattle.test_machine.proofs.places.a_call_saves_what_the_callee_changes.Goals as goal

pub allots-requires-clause-asked : goal.allots-requires-clause-asked
allots-requires-clause-asked g c = asked_of _ _ _ _ c.in_ok-low.ensures two_asked
