use Rattle.inline_theory.proofs.InlinedTogether.{inlining_law}
use Rattle.inline_theory.proofs.inlining_keeps.Goals as goal

pub returns : goal.returns
returns c = inlining_law
