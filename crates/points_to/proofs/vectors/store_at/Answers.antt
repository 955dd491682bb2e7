use Rattle.std.proofs.Common.{◌∷◌, [], sym, subst}
use Rattle.points_to.specs.Stored.{stored_at, PutsAtSite, PutsAtAllSites}
use Rattle.points_to.proofs.Sets.{on_ok}
use Rattle.points_to.proofs.VectorLoops.{stores_one}
use Rattle.points_to.proofs.vectors.store_at.Goals as goal

pub returns-in-Cell-clause-stores : goal.returns-in-Cell-clause-stores
returns-in-Cell-clause-stores c =
    let old = stored_at c.args.stored.now in
    let new = stored_at c.add.new.self in
    on_ok c.add.result (PutsAtSite old new c.in-Cell.s c.args.n)
    (PutsAtAllSites old new (c.args.cell ∷ []) c.args.n)
    (λ a. subst (λ x. PutsAtAllSites old new (x ∷ []) c.args.n) (sym c.in-Cell.is)
    (stores_one old new c.in-Cell.s c.args.n a)) c.add.ensures.stores
