use Rattle.std.proofs.Common.{◌≡◌, ◌<◌, Some, List, length, slice_get, refl, ap, arith}
use Rattle.std.specs.List.{flat_map}
use Rattle.std.specs.Vec.{with_item}
use Rattle.flow_system.specs.Inclusions.{Inclusion}
use Rattle.flow_system.specs.Tables.{Tables}
use Rattle.points_to.specs.declared.copies.Fetch.{Fetch}
use Rattle.points_to.specs.Bits.{block_words}
use Rattle.points_to.specs.Copies.{fetch_of, fetch_at, AreFetched, IsFetched, IsCopied}
use Rattle.seq.proofs.Lists.{get_is}
use Rattle.points_to.proofs.CopiesSound.{on_both, one_changed}
use Rattle.points_to.proofs.copies.Copies.put.Goals as goal

pub returns-then-g-len : goal.returns-then-g-len
returns-then-g-len c =
    let before = c.args.self.now in
    let g = c.args.g in
    let old = c.index_mut.result.now in
    let new = c.put_words.new.fetched in
    let after = record before { fetches = with_item before.fetches g new } in
    let us = flat_map block_words c.args.blocks.now in
    let lt : g < length before.fetches.items = omega (arith, before.fetches.ok.0) in
    let at : slice_get before.fetches.items g ≡ Some old
    = get_is before.fetches.items g old lt c.index_mut.ensures.value in
    on_both c.put_words.result (new.fetch ≡ old.fetch)
    ((p : Tables) (cs : List Inclusion) → AreFetched p cs old.fetch us → IsFetched p cs old
    → IsFetched p cs new)
    ((p : Tables) (cs : List Inclusion) →
    ((f : Fetch) → fetch_at before g ≡ Some f → AreFetched p cs f us) → IsCopied p cs before
    → IsCopied p cs after)
    (λ e more p cs are k. one_changed p cs before after g old new refl refl at e
    (λ x. more p cs (are old.fetch (ap fetch_of at)) x) k)
    c.put_words.ensures.fetch c.put_words.ensures.sound
