use Rattle.std.proofs.Common.{sym, ◌∙◌}
use Rattle.points_to.specs.Found.{found}
use Rattle.dead_store.specs.Holding.{set_holds}
use Rattle.dead_store.proofs.FetchedCells.{one_fetched, none_next, none_fetched}
use Rattle.dead_store.proofs.updates.ReadUpdates.is_fetched.Goals as goal

pub loop-site-preserved : goal.loop-site-preserved
loop-site-preserved c = none_next (set_holds c.args.self.now.sites.now.keys)
    (found c.args.self.now.flow.now) c.locs_of-site-items.result.now c.loop-site.site-index _
    c.loop-site-test.true c.loop-site.invariant (sym c.contains.ensures ∙ c.if-contains.false)

pub returns-then-contains : goal.returns-then-contains
returns-then-contains c = sym
    (one_fetched (set_holds c.args.self.now.sites.now.keys) (found c.args.self.now.flow.now)
    c.args.x.0 c.locs_of-site-items.result.now c.loop-site.site-index _
    c.locs_of-site-items.ensures.exact c.loop-site-test.true
    (sym c.contains.ensures ∙ c.if-contains.true))

pub returns : goal.returns
returns c = sym
    (none_fetched (set_holds c.args.self.now.sites.now.keys) (found c.args.self.now.flow.now)
    c.args.x.0 c.locs_of-site-items.result.now c.loop-site.site-index
    c.locs_of-site-items.ensures.exact c.loop-site-test.false c.loop-site.invariant)
