use Rattle.raise_theory.proofs.Kept.{raising_law}
use Rattle.raise_theory.proofs.raising_keeps.Goals as goal

pub returns : goal.returns
returns c = raising_law
