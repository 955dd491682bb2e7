use Rattle.inlined_form.proofs.SizesFit.{sizes_fit}
use Rattle.inlined_form.proofs.inlined_sizes_fit.Goals as goal

pub returns : goal.returns
returns c = sizes_fit
