use Rattle.std.proofs.Common.{◌≡◌, false, refl, ap}
use Rattle.flow_system.specs.Shown.{tables_of, inclusions_of, inclusion_of}
use Rattle.points_to.specs.Asked.{facts_demanded}
use Rattle.points_to.specs.Known.{held, GrowsByFacts}
use Rattle.points_to.specs.Kept.{Steps, MetAtEnd}
use Rattle.points_to.proofs.Sets.{if_on_ok}
use Rattle.points_to.proofs.Whole.{plain_steps, plain_met}
use Rattle.points_to.proofs.vectors.plain.Goals as goal

pub returns-clause-steps : goal.returns-clause-steps
returns-clause-steps c =
    let p = tables_of c.args.system.now in
    let cs = inclusions_of c.args.system.now in
    let k = c.args.kept.now in
    let i = inclusion_of c.args.inclusion.now in
    let new = c.satisfy.new.facts in
    if_on_ok c.satisfy.result
    (GrowsByFacts (held k.facts) (held new) (facts_demanded p (held k.facts) i))
    (λ added. added ≡ false → new ≡ k.facts)
    (Steps p cs k record { facts = new; stored = k.stored })
    (λ added g same. plain_steps p cs k (record { facts = new; stored = k.stored }) c.args.n i added
    c.requires.number c.requires.plain refl g
    (λ e. ap (λ f. record { facts = f; stored = k.stored }) (same e)))
    c.satisfy.ensures.grown c.satisfy.ensures.still

pub returns-clause-met : goal.returns-clause-met
returns-clause-met c =
    let p = tables_of c.args.system.now in
    let cs = inclusions_of c.args.system.now in
    let k = c.args.kept.now in
    let i = inclusion_of c.args.inclusion.now in
    let new = c.satisfy.new.facts in
    if_on_ok c.satisfy.result
    (GrowsByFacts (held k.facts) (held new) (facts_demanded p (held k.facts) i))
    (λ added. added ≡ false → new ≡ k.facts)
    (MetAtEnd p cs k i)
    (λ added g same. plain_met p cs k (record { facts = new; stored = k.stored }) i added
    c.requires.plain g (λ e. ap (λ f. record { facts = f; stored = k.stored }) (same e)))
    c.satisfy.ensures.grown c.satisfy.ensures.still
