use Rattle.core_reader.proofs.OnlyOne.{one_thing}
use Rattle.match_compile.proofs.Reading.{source_reads}
use Rattle.match_compile.proofs.laws.source_is_unique.Goals as goal

pub returns : goal.returns
returns c = λ text a b h g. one_thing source_reads text a b h g
