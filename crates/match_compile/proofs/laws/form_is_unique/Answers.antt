use Rattle.match_compile.proofs.OneForm.{one_form}
use Rattle.match_compile.proofs.laws.form_is_unique.Goals as goal

pub returns : goal.returns
returns c = one_form
