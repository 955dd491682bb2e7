use Rattle.arity_check.proofs.Exists.{some_normal_form}
use Rattle.arity_check.proofs.laws.normal_form_exists.Goals as goal

pub returns : goal.returns
returns c = some_normal_form
