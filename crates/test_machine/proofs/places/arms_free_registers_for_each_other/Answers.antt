use Rattle.test_machine.proofs.Asked.{asked_of, arms_asked}
use Rattle.test_machine.proofs.places.arms_free_registers_for_each_other.Goals as goal

pub allots-requires-clause-asked : goal.allots-requires-clause-asked
allots-requires-clause-asked g c = asked_of _ _ _ _ c.in_ok-low.ensures arms_asked
