use Rattle.std.proofs.Common.{◌≡◌, ◌∷◌, [], Some, false, refl, sym, ap, ◌∙◌, subst}
use Rattle.flow_system.specs.declared.fact.Element.TheVariants.{Cell}
use Rattle.flow_system.specs.Shown.{tables_of, inclusions_of}
use Rattle.points_to.specs.Kept.{Steps, MetAtEnd}
use Rattle.points_to.specs.Stored.{stored_at, PutsAtAllSites}
use Rattle.points_to.proofs.Sets.{if_on_ok}
use Rattle.points_to.proofs.Whole.{store_steps, store_met}
use Rattle.points_to.proofs.vectors.store.Goals as goal

pub returns-clause-steps : goal.returns-clause-steps
returns-clause-steps c =
    let p = tables_of c.args.system.now in
    let cs = inclusions_of c.args.system.now in
    let k = c.args.kept.now in
    let new = c.store_at.new.stored in
    if_on_ok c.store_at.result
    (PutsAtAllSites (stored_at k.stored) (stored_at new) (Cell c.args.s ∷ []) c.args.n)
    (λ added. added ≡ false → new ≡ k.stored)
    (Steps p cs k record { facts = k.facts; stored = new })
    (λ added st same. store_steps p cs k (record { facts = k.facts; stored = new }) c.args.n
    c.args.v.now c.args.s added (c.requires.number ∙ ap Some c.requires.is) c.requires.of_words
    refl
    st (λ e. ap (λ s. record { facts = k.facts; stored = s }) (same e)))
    c.store_at.ensures.stores c.store_at.ensures.still

pub returns-clause-met : goal.returns-clause-met
returns-clause-met c =
    let p = tables_of c.args.system.now in
    let cs = inclusions_of c.args.system.now in
    let k = c.args.kept.now in
    let new = c.store_at.new.stored in
    if_on_ok c.store_at.result
    (PutsAtAllSites (stored_at k.stored) (stored_at new) (Cell c.args.s ∷ []) c.args.n)
    (λ added. added ≡ false → new ≡ k.stored)
    (MetAtEnd p cs k _)
    (λ added st same. subst (λ i. MetAtEnd p cs k i added) (sym c.requires.is)
    (store_met p cs k (record { facts = k.facts; stored = new }) c.args.n c.args.v.now c.args.s
    added (c.requires.number ∙ ap Some c.requires.is)
    st (λ e. ap (λ s. record { facts = k.facts; stored = s }) (same e))))
    c.store_at.ensures.stores c.store_at.ensures.still
