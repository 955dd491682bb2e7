use Rattle.match_compile.proofs.Judged.{one_first}
use Rattle.match_compile.proofs.laws.first_fault_is_unique.Goals as goal

pub returns : goal.returns
returns c = λ text k at l place h g. one_first text k at l place h g
