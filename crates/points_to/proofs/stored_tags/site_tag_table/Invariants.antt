use Rattle.flow_system.specs.Shown.{tables_of, inclusions_of}
use Rattle.points_to.specs.declared.wanted.Kind.TheVariants.{Sites as of_sites}
use Rattle.points_to.specs.declared.wanted.Wanted.TheVariants.{NodeTags}
use Rattle.points_to.specs.Stored.{values_in, whole}
use Rattle.points_to.proofs.Read.{TableSoFar}
use Rattle.points_to.proofs.stored_tags.site_tag_table.Given as goal

abbrev pub invariant-loop-s : goal.invariant-loop-s
invariant-loop-s l = TableSoFar (λ t. t.0)
    (whole (tables_of l.system) (values_in (inclusions_of l.system)) l.facts l.stored) of_sites
    NodeTags l.table l.s
