use Rattle.std.proofs.Common.{sym, ◌∙◌}
use Rattle.update_special.proofs.Loops.{over_few}
use Rattle.update_special.proofs.blocks.over_tags.Goals as goal

pub returns : goal.returns
returns c = over_few _ _ _ _ (sym c.are_few.ensures ∙ c.if-not-are_few.false) c.in_ok-alts.ensures
