use Rattle.std.proofs.Common.{ℕ, map, rules}
use Rattle.points_to.specs.Found.{found}
use Rattle.arity_raise.specs.Fixed.{SiteHasOnly}
use Rattle.arity_raise.proofs.Each.{each_of_none, in_place, one_more_holds, all_hold}
use Rattle.arity_raise.proofs.Judged.{yes, no, not_so, only_one, others_too}
use Rattle.arity_raise.proofs.cells.ProgramFacts.has_only.Goals as goal

pub loop-site-init : goal.loop-site-init
loop-site-init c = each_of_none _

pub returns-then-not-site_has_only : goal.returns-then-not-site_has_only
returns-then-not-site_has_only c =
    no _ (others_too (found c.args.self.now.flow.now) c.args.x.0
    (map (λ s. s.0) c.locs_of-site-items.result.now) _ c.args.tag.0
    c.locs_of-site-items.ensures.exact
    (in_place (λ s. s.0) c.locs_of-site-items.result.now c.loop-site.site-index (record { 0 = 0 })
    c.loop-site-test.true) (not_so _ c.site_has_only.ensures (search rules)))

pub loop-site-preserved : goal.loop-site-preserved
loop-site-preserved c =
    let P : ℕ → Type 0 = λ s. SiteHasOnly (found c.args.self.now.flow.now) s c.args.tag.0 in
    one_more_holds (λ s. s.0) P c.locs_of-site-items.result.now c.loop-site.site-index
    (record { 0 = 0 }) c.loop-site-test.true c.loop-site.invariant
    (c.site_has_only.ensures.0 (search rules))

pub returns : goal.returns
returns c =
    let P : ℕ → Type 0 = λ s. SiteHasOnly (found c.args.self.now.flow.now) s c.args.tag.0 in
    yes _ (only_one (found c.args.self.now.flow.now) c.args.x.0
    (map (λ s. s.0) c.locs_of-site-items.result.now) c.args.tag.0
    c.locs_of-site-items.ensures.exact
    (all_hold (λ s. s.0) P c.locs_of-site-items.result.now c.loop-site.site-index
    c.loop-site-test.false c.loop-site.invariant))
