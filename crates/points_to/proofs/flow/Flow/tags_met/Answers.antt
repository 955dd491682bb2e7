use Rattle.std.proofs.Common.{map, slice_get, sym, subst}
use Rattle.points_to.specs.Found.{known}
use Rattle.points_to.specs.Wanted.{numbers_by}
use Rattle.points_to.specs.Met.{tags_of_sites, IsSortedSetOf}
use Rattle.points_to.proofs.TagsInCells.{tags_met}
use Rattle.points_to.proofs.flow.Flow.tags_met.Goals as goal

met : (c : goal.After-tag_entry) → IsSortedSetOf
    (tags_of_sites c.args.self.now.site_tags
    (numbers_by (λ s. s.0) (slice_get c.args.self.now.var_sites c.args.var.0)))
    (map (λ t. t.0) c.tag_entry.result.now)
met c = subst
    (IsSortedSetOf
    (tags_of_sites c.args.self.now.site_tags
    (numbers_by (λ s. s.0) (slice_get c.args.self.now.var_sites c.args.var.0))))
    (sym c.tag_entry.ensures) (c.args.self.now.tags_in_cells c.args.var.0)

pub returns-clause-ascending : goal.returns-clause-ascending
returns-clause-ascending c = (met c).ascending

pub returns-clause-exact : goal.returns-clause-exact
returns-clause-exact c = let f = c.args.self.now in tags_met (known f) f.site_tags f.var_sites
    f.at_sites f.cells_of_vars c.args.var.0 (map (λ t. t.0) c.tag_entry.result.now) (met c)
