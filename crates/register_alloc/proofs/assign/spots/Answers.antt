use Rattle.std.proofs.Common.{subst}
use Rattle.std.proofs.lemmas.Option.{slice_get-get_or}
use Rattle.register_alloc.proofs.Tables.{no_spots, spots_next, take_whole}
use Rattle.register_alloc.specs.Gathered.{AreSpots}
use Rattle.register_alloc.proofs.assign.spots.Goals as goal

pub loop-place-init : goal.loop-place-init
loop-place-init c = no_spots _

pub loop-place-preserved : goal.loop-place-preserved
loop-place-preserved c =
    spots_next c.args.given.now c.loop-place.place-index _ c.loop-place.spots.items
    c.put.new.spots.items
    (slice_get-get_or c.args.given.now c.loop-place.place-index _ c.loop-place-test.true)
    c.in_ok-put.ensures c.loop-place.invariant

pub returns : goal.returns
returns c = subst (λ gs. AreSpots gs c.loop-place.spots.items)
    (take_whole c.args.given.now c.loop-place.place-index c.loop-place-test.false)
    c.loop-place.invariant
