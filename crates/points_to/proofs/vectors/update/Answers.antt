use Rattle.std.proofs.Common.{◌≡◌, ◌++◌, Some, false, refl, sym, ap, ◌∙◌, subst}
use Rattle.flow_system.specs.Shown.{tables_of, inclusions_of}
use Rattle.points_to.specs.Held.{elements}
use Rattle.points_to.specs.Known.{held}
use Rattle.points_to.specs.Kept.{Steps, MetAtEnd}
use Rattle.points_to.specs.Stored.{stored_at, PutsAtAllSites}
use Rattle.points_to.proofs.Sets.{if_on_ok}
use Rattle.points_to.proofs.Whole.{update_steps, update_met}
use Rattle.points_to.proofs.vectors.update.Goals as goal

pub returns-clause-steps : goal.returns-clause-steps
returns-clause-steps c =
    let p = tables_of c.args.system.now in
    let cs = inclusions_of c.args.system.now in
    let k = c.args.kept.now in
    let new = c.store_all.new.stored in
    let cells = elements p (held k.facts) c.args.w in
    let are : c.as_slice.result.now ≡ cells = c.as_slice.ensures ∙ c.in_ok-elements.ensures ∙ ap
    (λ xs. xs ++ cells) c.new-cells.ensures in
    if_on_ok c.store_all.result
    (PutsAtAllSites (stored_at k.stored) (stored_at new) c.as_slice.result.now c.args.n)
    (λ added. added ≡ false → new ≡ k.stored)
    (Steps p cs k record { facts = k.facts; stored = new })
    (λ added st same. update_steps p cs k (record { facts = k.facts; stored = new }) c.args.n
    c.args.v.now c.args.w added (c.requires.number ∙ ap Some c.requires.is) c.requires.of_words
    refl
    (subst (λ xs. PutsAtAllSites (stored_at k.stored) (stored_at new) xs c.args.n) are st)
    (λ e. ap (λ s. record { facts = k.facts; stored = s }) (same e)))
    c.store_all.ensures.stores c.store_all.ensures.still

pub returns-clause-met : goal.returns-clause-met
returns-clause-met c =
    let p = tables_of c.args.system.now in
    let cs = inclusions_of c.args.system.now in
    let k = c.args.kept.now in
    let new = c.store_all.new.stored in
    let cells = elements p (held k.facts) c.args.w in
    let are : c.as_slice.result.now ≡ cells = c.as_slice.ensures ∙ c.in_ok-elements.ensures ∙ ap
    (λ xs. xs ++ cells) c.new-cells.ensures in
    if_on_ok c.store_all.result
    (PutsAtAllSites (stored_at k.stored) (stored_at new) c.as_slice.result.now c.args.n)
    (λ added. added ≡ false → new ≡ k.stored)
    (MetAtEnd p cs k _)
    (λ added st same. subst (λ i. MetAtEnd p cs k i added) (sym c.requires.is)
    (update_met p cs k (record { facts = k.facts; stored = new }) c.args.n c.args.v.now c.args.w
    added (c.requires.number ∙ ap Some c.requires.is)
    (subst (λ xs. PutsAtAllSites (stored_at k.stored) (stored_at new) xs c.args.n) are st)
    (λ e. ap (λ s. record { facts = k.facts; stored = s }) (same e))))
    c.store_all.ensures.stores c.store_all.ensures.still
