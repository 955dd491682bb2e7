use Rattle.core_print.proofs.RoundTrip.{canonical_is_of_one}
use Rattle.core_print.proofs.laws.canonical_text_is_of_one_program.Goals as goal

pub returns : goal.returns
returns c = canonical_is_of_one
