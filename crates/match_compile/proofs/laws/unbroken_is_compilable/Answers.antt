use Rattle.match_compile.proofs.Premised.{text_compilable}
use Rattle.match_compile.proofs.laws.unbroken_is_compilable.Goals as goal

pub returns : goal.returns
returns c = text_compilable
