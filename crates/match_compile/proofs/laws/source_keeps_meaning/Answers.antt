use Rattle.match_compile.proofs.Meant.{means_its_equations}
use Rattle.match_compile.proofs.laws.source_keeps_meaning.Goals as goal

pub returns : goal.returns
returns c = means_its_equations
