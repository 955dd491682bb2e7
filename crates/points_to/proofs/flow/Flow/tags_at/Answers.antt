use Rattle.std.proofs.Common.{map, sym, subst}
use Rattle.flow_system.specs.declared.fact.Place.TheVariants.{Site}
use Rattle.flow_system.specs.declared.fact.Part.TheVariants.{Tags as tags}
use Rattle.flow_system.specs.declared.fact.Element.TheVariants.{Tag}
use Rattle.points_to.specs.declared.wanted.Wanted.TheVariants.{NodeTags}
use Rattle.points_to.specs.Found.{known}
use Rattle.points_to.specs.Wanted.{Lists}
use Rattle.points_to.proofs.Read.{node_tags}
use Rattle.points_to.proofs.Solved.{known_at, at_known}
use Rattle.points_to.proofs.flow.Flow.tags_at.Goals as goal

pub returns-clause-ascending : goal.returns-clause-ascending
returns-clause-ascending c =
    (subst (Lists NodeTags (known c.args.self.now (Site c.args.site.0))) (sym c.tag_entry.ensures)
    (c.args.self.now.at_sites c.args.site.0)).ascending

pub returns-clause-exact : goal.returns-clause-exact
returns-clause-exact c = λ n.
    let H = known c.args.self.now in
    let q = Site c.args.site.0 in
    let l : Lists NodeTags (H q) (map (λ x. x.0) c.tag_entry.result.now)
    = subst (Lists NodeTags (H q)) (sym c.tag_entry.ensures)
    (c.args.self.now.at_sites c.args.site.0) in
    let r = node_tags (H q) (map (λ x. x.0) c.tag_entry.result.now) l n in
    (λ h. known_at H q tags (Tag n) (r.0 h), λ a. r.1 (at_known H q tags (Tag n) a))
