use Rattle.points_to.proofs.VectorLoops.{storing_begins, storing_on, storing_done}
use Rattle.points_to.proofs.vectors.store_all.Goals as goal

pub loop-cell-init : goal.loop-cell-init
loop-cell-init c = storing_begins _ _

pub loop-cell-preserved : goal.loop-cell-preserved
loop-cell-preserved c = storing_on _ _ _ _ _ _ _ _ _ _ c.loop-cell-test.true c.either-added.ensures
    c.loop-cell.invariant c.in_ok-store_at.ensures.stores c.in_ok-store_at.ensures.still

pub returns : goal.returns
returns c = let s = storing_done _ _ _ _ _ _ c.loop-cell-test.false c.loop-cell.invariant
    in record { stores = s.stores; still = s.same }
