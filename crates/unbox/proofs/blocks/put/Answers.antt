use Rattle.unbox.proofs.Boxing.{one_bound}
use Rattle.unbox.proofs.blocks.put.Goals as goal

pub returns : goal.returns
returns c = one_bound _ _ _ _ c.in_ok-push.ensures.ok
