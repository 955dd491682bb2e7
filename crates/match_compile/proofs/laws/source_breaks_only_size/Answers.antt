use Rattle.match_compile.proofs.InTable.{was_read}
use Rattle.match_compile.proofs.Breaks.{breaks_only_size}
use Rattle.match_compile.proofs.laws.source_breaks_only_size.Goals as goal

pub returns : goal.returns
returns c = λ d readable unbroken sound k at b. breaks_only_size d unbroken sound
    (was_read d readable) k at b
