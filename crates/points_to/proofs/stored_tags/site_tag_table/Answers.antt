use Rattle.std.proofs.Common.{◌≡◌, ◌+◌, ◌++◌, ◌∙◌, ℕ, List, [], ap, sym, subst, arith}
use Rattle.flow_system.specs.declared.fact.Place.{Place}
use Rattle.flow_system.specs.declared.fact.Place.TheVariants.{Site as site}
use Rattle.flow_system.specs.Shown.{tables_of, inclusions_of}
use Rattle.flow_system.specs.declared.inclusion.FlowSystem.{FlowSystem}
use Rattle.points_to.specs.declared.facts.Item.{Item}
use Rattle.points_to.specs.declared.facts.Facts.{Facts}
use Rattle.points_to.specs.declared.stored.Stored.{Stored}
use Rattle.points_to.specs.declared.wanted.Kind.TheVariants.{Sites as of_sites}
use Rattle.points_to.specs.declared.wanted.Wanted.TheVariants.{NodeTags}
use Rattle.points_to.specs.Known.{held}
use Rattle.points_to.specs.Stored.{values_in, stored_at, stored_nodes, whole}
use Rattle.points_to.proofs.Read.{TableSoFar, no_table, table_more, table_done}
use Rattle.points_to.proofs.stored_tags.site_tag_table.Goals as goal

abbrev known : FlowSystem → Facts → Stored → Place → List Item
known s f k = whole (tables_of s) (values_in (inclusions_of s)) f k

pub loop-s-init : goal.loop-s-init
loop-s-init c = subst
    (λ t. TableSoFar (λ t. t.0) (known c.args.system.now c.args.facts.now c.args.stored.now)
    of_sites NodeTags t 0) (sym c.new-table.ensures)
    (no_table (λ t. t.0) (known c.args.system.now c.args.facts.now c.args.stored.now) of_sites
    NodeTags)

pub loop-s-preserved : goal.loop-s-preserved
loop-s-preserved c =
    subst (λ t. TableSoFar (λ t. t.0) (known c.args.system.now c.args.facts.now c.args.stored.now)
    of_sites NodeTags t (c.loop-s.s + 1)) (sym c.in_ok-push.ensures.ok)
    (table_more (λ t. t.0) (known c.args.system.now c.args.facts.now c.args.stored.now) of_sites
    NodeTags c.loop-s.table c.loop-s.s c.in_ok-tags_at.field-0 c.loop-s.invariant
    c.in_ok-tags_at.ensures)

pub returns : goal.returns
returns c = table_done (λ t. t.0) (known c.args.system.now c.args.facts.now c.args.stored.now)
    of_sites NodeTags c.loop-s.table c.loop-s.s c.loop-s.invariant
    (λ m le. empty m (c.in_ok-count.ensures m (omega (arith, le, c.loop-s-test.false))))
  where
    empty : (m : ℕ) → (held c.args.facts.now (site m) ≡ []) × (stored_at c.args.stored.now m ≡ [])
        → known c.args.system.now c.args.facts.now c.args.stored.now (site m) ≡ []
    empty m e = ap
        (λ l. l ++ stored_nodes (tables_of c.args.system.now)
        (values_in (inclusions_of c.args.system.now)) (held c.args.facts.now)
        (stored_at c.args.stored.now m)) e.0
        ∙ ap (stored_nodes (tables_of c.args.system.now)
        (values_in (inclusions_of c.args.system.now)) (held c.args.facts.now)) e.1
