use Rattle.inline_theory.proofs.EvaluationsKeep.{inlining_law}
use Rattle.inline_theory.proofs.eval_inlining_keeps.Goals as goal

pub returns : goal.returns
returns c = inlining_law
