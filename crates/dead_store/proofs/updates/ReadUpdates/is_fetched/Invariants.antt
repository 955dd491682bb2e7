use Rattle.std.proofs.Common.{take}
use Rattle.points_to.specs.Found.{found}
use Rattle.dead_store.specs.Holding.{set_holds}
use Rattle.dead_store.proofs.FetchedCells.{NoneFetched}
use Rattle.dead_store.proofs.updates.ReadUpdates.is_fetched.Given as goal

abbrev pub invariant-loop-site : goal.invariant-loop-site
invariant-loop-site l = NoneFetched (set_holds l.self.sites.now.keys) (found l.self.flow.now)
    (take l.site-index l.site-items)
