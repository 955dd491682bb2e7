use Rattle.text_commands.proofs.Rereading.{canonical_keeps}
use Rattle.text_commands.proofs.laws.canonical_text_keeps_meaning.Goals as goal

pub returns : goal.returns
returns c = canonical_keeps c.normal_form_is_unique.ensures
    c.canonical_text_is_of_one_program.ensures
