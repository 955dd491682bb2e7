use Rattle.core_link.proofs.Kept.{one_module_keeps}
use Rattle.core_link.proofs.laws.single_module_keeps_meaning.Goals as goal

pub returns : goal.returns
returns c = one_module_keeps c.normal_form_is_unique.ensures c.normal_form_exists.ensures
