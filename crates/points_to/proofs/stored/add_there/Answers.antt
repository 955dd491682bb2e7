use Rattle.std.proofs.Common.{◌≡◌, [], ◌∷◌, false, OnOk, ap, ◌∙◌, slice_set, subst}
use Rattle.std.specs.Vec.{with_item}
use Rattle.points_to.specs.Rows.{numbers_in, GainsMembers}
use Rattle.points_to.specs.Stored.{sets_at, PutsAtSite}
use Rattle.points_to.proofs.SameVec.{same_item}
use Rattle.points_to.proofs.Sets.{on_ok, if_ok}
use Rattle.points_to.proofs.NumberedSets.{stores_at}
use Rattle.points_to.proofs.stored.add_there.Goals as goal

pub returns-clause-stores : goal.returns-clause-stores
returns-clause-stores c =
    let sets = c.args.sets.now.items in
    let s = c.args.site in
    let n = c.args.n in
    let old = c.index_mut.result.now in
    let new = c.add_new.new.self in
    on_ok c.add_new.result (GainsMembers (numbers_in old) (numbers_in new) (n ∷ []))
    (PutsAtSite (sets_at sets) (sets_at (slice_set sets s new)) s n)
    (stores_at sets s n old new c.requires c.index_mut.ensures.value)
    (subst (λ ns. OnOk c.add_new.result (GainsMembers (numbers_in old) (numbers_in new) ns))
    c.number_block.ensures c.add_new.ensures.gets)

pub returns-clause-still : goal.returns-clause-still
returns-clause-still c =
    let sets = c.args.sets.now in
    let s = c.args.site in
    let old = c.index_mut.result.now in
    let new = c.add_new.new.self in
    if_ok c.add_new.result (λ added. added ≡ false → new ≡ old)
    (λ added. added ≡ false → with_item sets s new ≡ sets)
    (λ added same e. ap (with_item sets s) (same e) ∙ same_item sets s old
    c.index_mut.ensures.value) c.add_new.ensures.still
