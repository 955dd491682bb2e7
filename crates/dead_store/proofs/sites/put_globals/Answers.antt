use Rattle.std.proofs.Common.{subst, ◌∷◌, []}
use Rattle.points_to.proofs.Read.{nothing_joins}
use Rattle.points_to.specs.Joined.{Joined}
use Rattle.dead_store.proofs.SiteSets.{joins_next, joins_all}
use Rattle.dead_store.proofs.sites.put_globals.Goals as goal

pub loop-cell-init : goal.loop-cell-init
loop-cell-init c = nothing_joins c.args.sites.now.keys

pub loop-cell-preserved : goal.loop-cell-preserved
loop-cell-preserved c = joins_next (λ c. c.site.0) c.args.globals.now _ _ _ _ _
    c.loop-cell-test.true c.loop-cell.invariant
    (subst (λ u. Joined c.loop-cell.sites.keys (u.site.0 ∷ []) c.put_site.new.sites.keys)
    c.cell-item.is c.in_ok-put_site.ensures)

pub returns : goal.returns
returns c = joins_all (λ c. c.site.0) c.args.globals.now _ _ _ c.loop-cell-test.false
    c.loop-cell.invariant
