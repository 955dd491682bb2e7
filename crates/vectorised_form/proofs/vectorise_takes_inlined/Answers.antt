use Rattle.vectorised_form.proofs.Taken.{taken}
use Rattle.vectorised_form.proofs.vectorise_takes_inlined.Goals as goal

pub returns : goal.returns
returns c = taken c.inlined_programs_are_ready.ensures
