use Rattle.std.proofs.Common.{◌≡◌, List, Option, sym, subst}
use Rattle.flow_system.specs.Shown.{tables_of, inclusions_of}
use Rattle.flow_system.specs.Tables.{Tables}
use Rattle.grin_syntax.specs.declared.program.Val.{Val}
use Rattle.points_to.specs.declared.wanted.Kind.TheVariants.{Sites as of_sites}
use Rattle.points_to.specs.declared.wanted.Wanted.TheVariants.{NodeTags}
use Rattle.points_to.specs.Known.{solution_of}
use Rattle.points_to.specs.Stored.{values_in, whole}
use Rattle.points_to.specs.Wanted.{TagTable}
use Rattle.points_to.proofs.FoundFlow.{found_of}
use Rattle.points_to.proofs.flow.Flow.with_values.Goals as goal

same : {X : Type 1} (F : Tables → List (Option Val) → X) {p p' : Tables}
    {vs vs' : List (Option Val)} → p ≡ p' → vs ≡ vs' → F p vs ≡ F p' vs'
same F e q = λ i. F (e i) (q i)

pub make-requires : goal.make-requires
make-requires c =
    subst (λ A. A)
    (sym (same
    (λ p vs. TagTable (whole p vs c.args.facts c.args.stored) of_sites NodeTags
    c.in_ok-site_tags.site_tags) c.in_ok-origin.ensures.tables c.in_ok-origin.ensures.values))
    c.in_ok-site_tags.ensures

pub returns : goal.returns
returns c =
    let o = c.in_ok-origin.origin in
    found_of c.make.result c.args.facts c.args.stored o
    (solution_of
    (whole (tables_of c.args.system.now) (values_in (inclusions_of c.args.system.now))
    c.args.facts c.args.stored))
    c.make.ensures.facts c.make.ensures.stored c.make.ensures.origin
    (λ i. solution_of
    (whole (c.in_ok-origin.ensures.tables i) (c.in_ok-origin.ensures.values i) c.args.facts
    c.args.stored))
