use Rattle.match_compile.proofs.InTable.{was_read}
use Rattle.match_compile.proofs.Single.{stays_one}
use Rattle.match_compile.proofs.Premised.{text_compilable}
use Rattle.match_compile.proofs.laws.simple_stays_one_function.Goals as goal

pub returns : goal.returns
returns c = λ text d is unbroken before after es parts simple.
    stays_one d (was_read d (text_compilable text d is unbroken).readable) before after es parts
    simple
