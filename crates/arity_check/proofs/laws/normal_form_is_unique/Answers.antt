use Rattle.arity_check.proofs.Unique as unique
use Rattle.arity_check.proofs.laws.normal_form_is_unique.Goals as goal

pub returns : goal.returns
returns c = unique.one_normal_form
