use Rattle.match_compile.proofs.InTable.{was_read}
use Rattle.match_compile.proofs.Breaks.{breaks_only_size}
use Rattle.match_compile.proofs.Premised.{text_compilable}
use Rattle.match_compile.proofs.laws.breaks_only_size.Goals as goal

pub returns : goal.returns
returns c = λ text d is unbroken sound k at b.
    let fine = text_compilable text d is unbroken in
    breaks_only_size d fine.unbroken sound (was_read d fine.readable) k at b
