use Rattle.inlined_form.proofs.Readiness.{inlined_is_ready}
use Rattle.inlined_form.proofs.inlined_programs_are_ready.Goals as goal

pub returns : goal.returns
returns c = inlined_is_ready c.valid_translations_are_formed.ensures.formed
