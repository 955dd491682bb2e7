use Rattle.match_compile.proofs.Meant.{means_its_equations}
use Rattle.match_compile.proofs.Premised.{text_compilable}
use Rattle.match_compile.proofs.laws.translation_keeps_meaning.Goals as goal

pub returns : goal.returns
returns c = λ text d p is unbroken.
    let fine = text_compilable text d is unbroken in means_its_equations d p fine.readable
    fine.unbroken
