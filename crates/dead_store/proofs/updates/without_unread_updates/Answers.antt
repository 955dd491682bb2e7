use Rattle.points_to.specs.Found.{found}
use Rattle.dead_store.specs.Holding.{set_holds}
use Rattle.dead_store.proofs.UpdatesContract.{updates_read, is_kept}
use Rattle.dead_store.proofs.updates.without_unread_updates.Goals as goal

pub returns-clause-shape : goal.returns-clause-shape
returns-clause-shape c = updates_read _ _ (found c.args.flow.now)
    (set_holds c.in_ok-sites.sites.keys) c.requires.of_vectors c.requires.solves
    c.in_ok-sites.ensures c.in_ok-h.ensures

pub returns-clause-meaning : goal.returns-clause-meaning
returns-clause-meaning c = is_kept _ _ (found c.args.flow.now) (set_holds c.in_ok-sites.sites.keys)
    c.requires.of_vectors c.requires.solves c.in_ok-sites.ensures c.in_ok-h.ensures
