use Rattle.std.proofs.Common.{◌≡◌, ◌<◌, ℕ, Some, List, length, slice_get, refl, arith}
use Rattle.std.specs.Vec.{with_item}
use Rattle.flow_system.specs.Inclusions.{Inclusion}
use Rattle.flow_system.specs.Shown.{inclusion_of}
use Rattle.flow_system.specs.Tables.{Tables}
use Rattle.points_to.specs.Copies.{GoesTo, IsFetched, IsCopied}
use Rattle.seq.proofs.Lists.{get_is}
use Rattle.points_to.proofs.CopiesSound.{on_both, one_changed, inclusion_goes}
use Rattle.points_to.proofs.copies.Copies.add_target.Goals as goal

pub returns-then-g-len : goal.returns-then-g-len
returns-then-g-len c =
    let before = c.args.self.now in
    let g = c.args.g in
    let old = c.index_mut.result.now in
    let new = c.put_target.new.fetched in
    let after = record before { fetches = with_item before.fetches g new } in
    let lt : g < length before.fetches.items = omega (arith, before.fetches.ok.0) in
    let at : slice_get before.fetches.items g ≡ Some old
    = get_is before.fetches.items g old lt c.index_mut.ensures.value in
    let f = c.in-Some.fetch in
    let x = c.in-Some.x in
    let this = inclusion_of c.args.inclusion.now in
    on_both c.put_target.result (new.fetch ≡ old.fetch)
    ((p : Tables) (cs : List Inclusion) → GoesTo p cs f x.0 → IsFetched p cs old
    → IsFetched p cs new)
    ((p : Tables) (cs : List Inclusion) (i : ℕ) → slice_get cs i ≡ Some this → IsCopied p cs before
    → IsCopied p cs after)
    (λ e more p cs i is k. one_changed p cs before after g old new refl refl at e
    (more p cs (inclusion_goes p cs i this f x is c.in-Some.ensures)) k)
    c.put_target.ensures.fetch c.put_target.ensures.sound
