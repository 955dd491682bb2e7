use Rattle.std.proofs.Common.{◌≡◌, ℕ, ◌⊎◌, false, refl, ap, ◌∙◌, slice_set}
use Rattle.std.specs.Vec.{with_item}
use Rattle.points_to.specs.Known.{items_at, PutsItems}
use Rattle.points_to.specs.Rows.{GainsMembers}
use Rattle.points_to.specs.Runs.{items_of_item_run}
use Rattle.points_to.proofs.Sets.{on_ok, if_ok, puts}
use Rattle.points_to.proofs.SameVec.{same_item}
use Rattle.points_to.proofs.Elsewhere.{items_elsewhere}
use Rattle.points_to.proofs.facts.add_there.Goals as goal

pub returns-clause-puts : goal.returns-clause-puts
returns-clause-puts c =
    let sets = c.args.sets.now.items in
    let n = c.args.n in
    let old = c.index_mut.result.now in
    let new = c.add_new.new.self in
    let is = items_of_item_run c.args.run in
    on_ok c.add_new.result (GainsMembers old new is)
    (PutsItems (items_at sets) (items_at (slice_set sets n new)) n is)
    (puts (items_at sets) sets n old new is refl c.requires c.index_mut.ensures.value)
    c.add_new.ensures.gets

pub returns-clause-elsewhere : goal.returns-clause-elsewhere
returns-clause-elsewhere c =
    let sets = c.args.sets.now.items in
    let n = c.args.n in
    let old = c.index_mut.result.now in
    let new = c.add_new.new.self in
    on_ok c.add_new.result (GainsMembers old new (items_of_item_run c.args.run))
    ((m : ℕ) → (m ≡ n) ⊎ (items_at (slice_set sets n new) m ≡ items_at sets m))
    (λ g. items_elsewhere (items_at sets) sets n new refl) c.add_new.ensures.gets

pub returns-clause-still : goal.returns-clause-still
returns-clause-still c =
    let sets = c.args.sets.now in
    let n = c.args.n in
    let old = c.index_mut.result.now in
    let new = c.add_new.new.self in
    if_ok c.add_new.result (λ added. added ≡ false → new ≡ old)
    (λ added. added ≡ false → with_item sets n new ≡ sets)
    (λ added same e. ap (with_item sets n) (same e) ∙ same_item sets n old
    c.index_mut.ensures.value) c.add_new.ensures.still
