use Rattle.std.proofs.Common.{◌≡◌, ◌++◌, Some, false, refl, sym, ap, ◌∙◌, subst}
use Rattle.flow_system.specs.Shown.{tables_of, inclusions_of, sink_of}
use Rattle.points_to.specs.Asked.{asked}
use Rattle.points_to.specs.Known.{held, GrowsByFacts}
use Rattle.points_to.specs.Rows.{SameMembers, numbers_in}
use Rattle.points_to.specs.Kept.{met_by, Steps, MetAtEnd}
use Rattle.points_to.proofs.Sets.{if_on_ok}
use Rattle.points_to.proofs.WholeFetch.{fetch_steps, fetch_met}
use Rattle.points_to.proofs.vectors.put_met.Goals as goal

pub returns-clause-steps : goal.returns-clause-steps
returns-clause-steps c =
    let p = tables_of c.args.system.now in
    let cs = inclusions_of c.args.system.now in
    let k = c.args.kept.now in
    let t = sink_of c.args.sink.now in
    let X = c.in_ok-items.items in
    let new = c.add_all.new.facts in
    let asks = asked p (held k.facts) (Some 1) X t in
    let all : c.asked.new.out ≡ asks = c.in_ok-asked.ensures ∙ ap (λ l. l ++ asks)
    c.new-facts.ensures in
    if_on_ok c.add_all.result (GrowsByFacts (held k.facts) (held new) c.asked.new.out)
    (λ added. added ≡ false → new ≡ k.facts)
    (Steps p cs k record { facts = new; stored = k.stored })
    (λ added g same. fetch_steps p cs k (record { facts = new; stored = k.stored }) c.args.n
    c.args.w c.args.i t (numbers_in c.args.numbers.now) X added
    (c.requires.number ∙ ap Some c.requires.is) c.requires.elsewhere c.requires.sound
    c.in_ok-items.ensures refl
    (subst (GrowsByFacts (held k.facts) (held new)) all g)
    (λ e. ap (λ f. record { facts = f; stored = k.stored }) (same e)))
    c.add_all.ensures.grown c.add_all.ensures.still

pub returns-clause-met : goal.returns-clause-met
returns-clause-met c =
    let p = tables_of c.args.system.now in
    let cs = inclusions_of c.args.system.now in
    let k = c.args.kept.now in
    let t = sink_of c.args.sink.now in
    let X = c.in_ok-items.items in
    let new = c.add_all.new.facts in
    let asks = asked p (held k.facts) (Some 1) X t in
    let all : c.asked.new.out ≡ asks = c.in_ok-asked.ensures ∙ ap (λ l. l ++ asks)
    c.new-facts.ensures in
    if_on_ok c.add_all.result (GrowsByFacts (held k.facts) (held new) c.asked.new.out)
    (λ added. added ≡ false → new ≡ k.facts)
    (λ added. SameMembers (numbers_in c.args.numbers.now) (met_by p k c.args.w)
    → MetAtEnd p cs k _ added)
    (λ added g same exact. subst (λ i. MetAtEnd p cs k i added) (sym c.requires.is)
    (fetch_met p cs k (record { facts = new; stored = k.stored }) c.args.w c.args.i t
    (numbers_in c.args.numbers.now) X added c.requires.elsewhere exact c.in_ok-items.ensures
    (subst (GrowsByFacts (held k.facts) (held new)) all g)
    (λ e. ap (λ f. record { facts = f; stored = k.stored }) (same e))))
    c.add_all.ensures.grown c.add_all.ensures.still
