use Rattle.std.proofs.Common.{refl}
use Rattle.copy_prop.proofs.Used.{none_next}
use Rattle.copy_prop.proofs.uses.Uses.all_spare.Goals as goal

pub loop-x-preserved : goal.loop-x-preserved
loop-x-preserved c = none_next _ _ _ _ _ _ _ _ c.loop-x-test.true refl c.loop-x.invariant
    c.used_after.ensures c.spare_too-spare.ensures
