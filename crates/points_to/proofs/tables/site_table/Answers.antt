use Rattle.std.proofs.Common.{◌+◌, map, sym, subst, arith}
use Rattle.points_to.specs.Known.{held}
use Rattle.points_to.specs.Wanted.{Lists}
use Rattle.points_to.proofs.Read.{TableSoFar, no_table, table_more, table_done}
use Rattle.points_to.proofs.tables.site_table.Goals as goal

pub loop-n-init : goal.loop-n-init
loop-n-init c = subst (λ t. TableSoFar (λ t. t.0) (held c.args.facts.now) c.args.kind c.args.w t 0)
    (sym c.new-table.ensures) (no_table (λ t. t.0) (held c.args.facts.now) c.args.kind c.args.w)

pub loop-n-preserved : goal.loop-n-preserved
loop-n-preserved c =
    let ts = c.in_ok-sites_of.field-0 in
    let lists : Lists c.args.w (held c.args.facts.now c.place_of.result) (map (λ t. t.0) ts)
    = c.in_ok-sites_of.ensures in
    subst (λ t. TableSoFar (λ t. t.0) (held c.args.facts.now) c.args.kind c.args.w t
    (c.loop-n.n + 1)) (sym c.in_ok-push.ensures.ok)
    (table_more (λ t. t.0) (held c.args.facts.now) c.args.kind c.args.w c.loop-n.table c.loop-n.n ts
    c.loop-n.invariant
    (subst (λ q. Lists c.args.w (held c.args.facts.now q) (map (λ t. t.0) ts))
    c.place_of.ensures lists))

pub returns : goal.returns
returns c = table_done (λ t. t.0) (held c.args.facts.now) c.args.kind c.args.w c.loop-n.table
    c.loop-n.n c.loop-n.invariant (λ m le. c.in_ok-count.ensures m (omega arith))
