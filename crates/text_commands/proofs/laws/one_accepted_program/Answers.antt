use Rattle.text_commands.proofs.Gives.{accepted_once}
use Rattle.text_commands.proofs.laws.one_accepted_program.Goals as goal

pub returns : goal.returns
returns c = accepted_once c.normal_form_is_unique.ensures
