use Rattle.std.proofs.Common.{refl, subst}
use Rattle.std.proofs.lemmas.Option.{slice_get-get_or}
use Rattle.register_alloc.proofs.Tables.{own_none, own_next, take_whole}
use Rattle.register_alloc.specs.Gathered.{IsOwnMask}
use Rattle.register_alloc.proofs.assign.own_mask.Goals as goal

pub loop-place-init : goal.loop-place-init
loop-place-init c = own_none c.args.mask

pub loop-place-preserved : goal.loop-place-preserved
loop-place-preserved c =
    own_next c.args.mask c.loop-place.all c.mask_of_spot-all.result _ c.args.given.now
    c.loop-place.place-index _
    (slice_get-get_or c.args.given.now c.loop-place.place-index _ c.loop-place-test.true)
    c.mask_of_spot-all.ensures refl c.loop-place.invariant

pub returns : goal.returns
returns c = subst (λ gs. IsOwnMask c.args.mask gs c.loop-place.all)
    (take_whole c.args.given.now c.loop-place.place-index c.loop-place-test.false)
    c.loop-place.invariant
