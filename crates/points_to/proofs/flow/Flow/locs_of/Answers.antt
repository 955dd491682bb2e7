use Rattle.std.proofs.Common.{map, sym, subst}
use Rattle.flow_system.specs.declared.fact.Place.TheVariants.{Var}
use Rattle.flow_system.specs.declared.fact.Part.TheVariants.{Word as word}
use Rattle.flow_system.specs.declared.fact.Element.TheVariants.{Cell}
use Rattle.points_to.specs.declared.wanted.Wanted.TheVariants.{Sites as cell_sites}
use Rattle.points_to.specs.Found.{known}
use Rattle.points_to.specs.Wanted.{Lists}
use Rattle.points_to.proofs.Read.{cells}
use Rattle.points_to.proofs.Solved.{known_at, at_known}
use Rattle.points_to.proofs.flow.Flow.locs_of.Goals as goal

pub returns-clause-ascending : goal.returns-clause-ascending
returns-clause-ascending c =
    (subst (Lists cell_sites (known c.args.self.now (Var c.args.var.0))) (sym c.site_entry.ensures)
    (c.args.self.now.cells_of_vars c.args.var.0)).ascending

pub returns-clause-exact : goal.returns-clause-exact
returns-clause-exact c = λ n.
    let H = known c.args.self.now in
    let q = Var c.args.var.0 in
    let l : Lists cell_sites (H q) (map (λ x. x.0) c.site_entry.result.now)
    = subst (Lists cell_sites (H q)) (sym c.site_entry.ensures)
    (c.args.self.now.cells_of_vars c.args.var.0) in
    let r = cells (H q) (map (λ x. x.0) c.site_entry.result.now) l n in
    (λ h. known_at H q (word 0) (Cell n) (r.0 h), λ a. r.1 (at_known H q (word 0) (Cell n) a))
