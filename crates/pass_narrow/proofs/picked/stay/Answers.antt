use Rattle.std.proofs.Common.{refl}
use Rattle.pass_narrow.proofs.Loops.{stay_next}
use Rattle.pass_narrow.proofs.picked.stay.Goals as goal

pub xs-preserved : goal.xs-preserved
xs-preserved c = rw c.in_ok-push.ensures.ok
    (stay_next _ _ c.xs.x-index _ (record { 0 = 0 }) _ _ c.xs-test.true refl c.xs.invariant
    c.used_after.ensures)
