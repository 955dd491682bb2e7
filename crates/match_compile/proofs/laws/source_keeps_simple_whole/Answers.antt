use Rattle.match_compile.proofs.InTable.{was_read}
use Rattle.match_compile.proofs.Single.{stays_one}
use Rattle.match_compile.proofs.laws.source_keeps_simple_whole.Goals as goal

pub returns : goal.returns
returns c = λ d readable before after es parts simple. stays_one d (was_read d readable) before
    after es parts simple
