use Rattle.inline_theory.proofs.InlinedTogether.{apply_inlining_law}
use Rattle.inline_theory.proofs.apply_inlining_keeps.Goals as goal

pub returns : goal.returns
returns c = apply_inlining_law
