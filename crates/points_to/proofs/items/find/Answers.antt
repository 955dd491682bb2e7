use Rattle.std.proofs.Common.{◌≡◌, ◌≢◌, ◌≤◌, false, length, sym, ◌∙◌, subst, arith}
use Rattle.points_to.specs.Held.{same_part}
use Rattle.points_to.proofs.PartOrder.{goes_there}
use Rattle.points_to.proofs.items.find.Goals as goal

pub returns : goal.returns
returns c =
    let bound : c.place_of-place.result ≤ length c.args.rows.now = c.place_of-place.ensures.bound in
    let apart : c.place_of-place.result ≢ length c.args.rows.now = c.if-place-rows.false in
    goes_there c.args.rows.now c.args.part c.place_of-place.result c.place_of-place.ensures
    c.index-rows-place.result (omega (arith, bound, apart)) c.index-rows-place.is c.requires
    (subst (λ r. same_part r.part c.args.part ≡ false) (sym c.index-rows-place.is)
    (sym c.same_part.ensures ∙ c.if-same_part.false))
