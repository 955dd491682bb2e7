use Rattle.std.proofs.Common.{◌≡◌, ◌+◌, ◌-◌, ◌/◌, ◌<◌, ◌≤◌, true, false, length, sym, ◌∙◌, subst, arith}
use Rattle.points_to.specs.PartOrder.{before}
use Rattle.points_to.proofs.PartOrder.{in_upper, in_lower}
use Rattle.points_to.proofs.items.place_of.Goals as goal

pub halving-preserved-then-is_before : goal.halving-preserved-then-is_before
halving-preserved-then-is_before c =
    let low = c.halving.low in
    let high = c.halving.high in
    let p = c.halving.invariant in
    let test : low < high = c.halving-test.true in
    let bound : high ≤ length c.args.rows.now = p.bound in
    in_upper c.args.rows.now c.requires c.args.part low high (low + (high - low) / 2)
    c.index-rows-middle.result p (omega (arith, test, bound)) c.index-rows-middle.is
    (omega (arith, test))
    (subst (λ r. before r.part c.args.part ≡ true) (sym c.index-rows-middle.is)
    (sym c.is_before.ensures ∙ c.if-is_before.true))

pub halving-preserved : goal.halving-preserved
halving-preserved c =
    let low = c.halving.low in
    let high = c.halving.high in
    let p = c.halving.invariant in
    let test : low < high = c.halving-test.true in
    let bound : high ≤ length c.args.rows.now = p.bound in
    in_lower c.args.rows.now c.requires c.args.part low high (low + (high - low) / 2)
    c.index-rows-middle.result p (omega (arith, test, bound)) c.index-rows-middle.is
    (omega (arith, test))
    (subst (λ r. before r.part c.args.part ≡ false) (sym c.index-rows-middle.is)
    (sym c.is_before.ensures ∙ c.if-is_before.false))
