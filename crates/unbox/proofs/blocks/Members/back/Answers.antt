use Rattle.std.proofs.Common.{arith}
use Rattle.unbox.proofs.Sweeping.{no_step_back, step_back}
use Rattle.unbox.proofs.blocks.Members.back.Goals as goal

pub back-init : goal.back-init
back-init c = record { within = omega arith; some = no_step_back _ _ }

pub back-preserved : goal.back-preserved
back-preserved c = record {
  within = omega arith;
  some = step_back _ _ _ _ _ _ _ (omega arith) c.index-ties-left.is
      c.heed.ensures c.back.invariant.some;
}
