use Rattle.core_reader.proofs.OnlyOne.{one_thing}
use Rattle.lambda_reader.proofs.Reading.{lambda_reads}
use Rattle.lambda_reader.proofs.laws.program_is_unique.Goals as goal

pub returns : goal.returns
returns c = λ text p q h g. one_thing lambda_reads text p q h g
