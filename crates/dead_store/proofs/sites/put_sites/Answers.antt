use Rattle.points_to.proofs.Read.{nothing_joins}
use Rattle.dead_store.proofs.SiteSets.{joins_next, joins_all}
use Rattle.dead_store.proofs.sites.put_sites.Goals as goal

pub loop-site-init : goal.loop-site-init
loop-site-init c = nothing_joins c.args.sites.now.keys

pub loop-site-preserved : goal.loop-site-preserved
loop-site-preserved c = joins_next (λ s. s.0) c.args.more.now _ _ _ _ _ c.loop-site-test.true
    c.loop-site.invariant c.in_ok-put_site.ensures

pub returns : goal.returns
returns c = joins_all (λ s. s.0) c.args.more.now _ _ _ c.loop-site-test.false c.loop-site.invariant
