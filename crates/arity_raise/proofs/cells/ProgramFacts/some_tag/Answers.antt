use Rattle.std.proofs.Common.{ℕ, map}
use Rattle.flow_system.specs.declared.fact.Element.TheVariants.{Tag as tag}
use Rattle.flow_system.specs.declared.fact.Place.TheVariants.{Site as site}
use Rattle.flow_system.specs.declared.fact.Part.TheVariants.{Tags as tags}
use Rattle.flow_system.specs.Solution.{At}
use Rattle.points_to.specs.Found.{found}
use Rattle.arity_raise.proofs.Each.{each_of_none, in_place, one_more_holds, all_hold}
use Rattle.arity_raise.proofs.Judged.{no_tags}
use Rattle.arity_raise.proofs.cells.ProgramFacts.some_tag.Goals as goal

pub loop-site-init : goal.loop-site-init
loop-site-init c = each_of_none _

pub returns-in-Some : goal.returns-in-Some
returns-in-Some c = record {
  cell = _;
  there = (c.locs_of-site-items.ensures.exact _).0
      (in_place (λ s. s.0) c.locs_of-site-items.result.now c.loop-site.site-index (record { 0 = 0 })
      c.loop-site-test.true);
  has_tag = (c.tags_at.ensures.exact _).0 c.in-Some.ensures;
}

pub loop-site-preserved : goal.loop-site-preserved
loop-site-preserved c =
    let P : ℕ → Type 0 = λ s. (t : ℕ) → At (found c.args.self.now.flow.now) (site s) tags (tag t)
    → ⊥ in
    one_more_holds (λ s. s.0) P c.locs_of-site-items.result.now c.loop-site.site-index
    (record { 0 = 0 }) c.loop-site-test.true c.loop-site.invariant
    (λ t at. c.in-None.ensures t ((c.tags_at.ensures.exact t).1 at))

pub returns : goal.returns
returns c =
    let P : ℕ → Type 0 = λ s. (t : ℕ) → At (found c.args.self.now.flow.now) (site s) tags (tag t)
    → ⊥ in
    no_tags (found c.args.self.now.flow.now) c.args.x.0
    (map (λ s. s.0) c.locs_of-site-items.result.now) c.locs_of-site-items.ensures.exact
    (all_hold (λ s. s.0) P c.locs_of-site-items.result.now c.loop-site.site-index
    c.loop-site-test.false c.loop-site.invariant)
