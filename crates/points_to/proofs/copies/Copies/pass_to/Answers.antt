use Rattle.std.proofs.Common.{◌≡◌, Some, List, slice_get, subst}
use Rattle.std.specs.List.{flat_map}
use Rattle.flow_system.specs.Inclusions.{Inclusion}
use Rattle.flow_system.specs.Tables.{Tables}
use Rattle.points_to.specs.declared.copies.Fetch.{Fetch}
use Rattle.points_to.specs.Bits.{block_words}
use Rattle.points_to.specs.Copies.{fetch_at, links_at, AreFetched, AreAt, IsCopied}
use Rattle.points_to.specs.Held.{In}
use Rattle.seq.proofs.Lists.{get_is}
use Rattle.points_to.proofs.Sets.{on_ok}
use Rattle.points_to.proofs.CopiesSound.{at_in, linked_words}
use Rattle.points_to.proofs.copies.Copies.pass_to.Goals as goal

pub returns-in-Some : goal.returns-in-Some
returns-in-Some c =
    let before = c.args.self.now in
    let after = c.put.new.self in
    let x = c.args.x in
    let g = c.in-Some.g.now in
    let us = flat_map block_words c.args.fresh.now in
    let row = c.linked_to.result.now in
    let at : slice_get row c.args.k ≡ Some g = get_is row c.args.k g c.in-Some.ensures.lookup.3.0
    c.in-Some.ensures.lookup.1 in
    let linked : In g (links_at before x) = subst (In g) c.linked_to.ensures
    (at_in row c.args.k g at) in
    on_ok c.put.result
    ((p : Tables) (cs : List Inclusion) →
    ((f : Fetch) → fetch_at before g ≡ Some f → AreFetched p cs f us) → IsCopied p cs before
    → IsCopied p cs after)
    ((p : Tables) (cs : List Inclusion) → AreAt p cs x us → IsCopied p cs before
    → IsCopied p cs after)
    (λ more p cs are k. more p cs (λ f is. linked_words p cs before x g f us k linked is are) k)
    c.put.ensures
