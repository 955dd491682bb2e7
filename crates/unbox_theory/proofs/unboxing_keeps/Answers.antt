use Rattle.unbox_theory.proofs.Kept.{unboxing_law}
use Rattle.unbox_theory.proofs.unboxing_keeps.Goals as goal

pub returns : goal.returns
returns c = unboxing_law
