use Rattle.core_reader.proofs.OnlyOne.{one_program}
use Rattle.core_reader.proofs.laws.program_is_unique.Goals as goal

pub returns : goal.returns
returns c = one_program
