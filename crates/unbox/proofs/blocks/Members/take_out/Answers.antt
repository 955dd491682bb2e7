use Rattle.unbox.proofs.Sweeping.{one_out}
use Rattle.unbox.proofs.blocks.Members.take_out.Goals as goal

pub returns-then-inside : goal.returns-then-inside
returns-then-inside c = one_out _ _ _ _ c.has-inside.ensures c.if-inside.true c.set.ensures
