use Rattle.std.proofs.Common.{ap, sym, subst}
use Rattle.points_to.specs.declared.wanted.Kind.TheVariants.{Sites as of_sites}
use Rattle.points_to.specs.declared.wanted.Wanted.TheVariants.{NodeTags}
use Rattle.points_to.specs.Known.{held, solution_of}
use Rattle.points_to.specs.Stored.{tables_in}
use Rattle.points_to.specs.Wanted.{TagTable}
use Rattle.points_to.proofs.FoundFlow.{nothing_stored, found_of}
use Rattle.points_to.proofs.flow.Flow.from_facts.Goals as goal

pub make-requires : goal.make-requires
make-requires c =
    let o = c.none.result in
    subst (λ H. TagTable H of_sites NodeTags c.in_ok-site_tags.site_tags)
    (sym (nothing_stored (tables_in o) o.values c.args.facts c.new.result c.new.ensures))
    c.in_ok-site_tags.ensures

pub returns : goal.returns
returns c =
    let o = c.none.result in
    found_of c.make.result c.args.facts c.new.result o (solution_of (held c.args.facts))
    c.make.ensures.facts c.make.ensures.stored c.make.ensures.origin
    (ap solution_of (nothing_stored (tables_in o) o.values c.args.facts c.new.result c.new.ensures))
