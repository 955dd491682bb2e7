use Rattle.unbox.proofs.Sweeping.{there_and_back}
use Rattle.unbox.proofs.blocks.Members.round.Goals as goal

pub returns-then-changed : goal.returns-then-changed
returns-then-changed c = there_and_back _ _ _ _ _ c.sweep-changed.ensures c.if-changed.true
    c.back.ensures.sound c.back.ensures.fewer
