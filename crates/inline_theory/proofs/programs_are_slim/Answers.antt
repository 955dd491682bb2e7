use Rattle.inline_theory.proofs.Weighed.{slim}
use Rattle.inline_theory.proofs.programs_are_slim.Goals as goal

pub returns : goal.returns
returns c = slim
