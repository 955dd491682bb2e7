use Rattle.core_link.proofs.Headed.{each_has_program}
use Rattle.core_link.proofs.laws.module_text_has_program.Goals as goal

pub returns : goal.returns
returns c = each_has_program
