use Rattle.std.proofs.Common.{◌≡◌, ◌+◌, suc, false, length, set, Some, slice_get, refl, subst, arith, sym}
use Rattle.std.proofs.lemmas.Option.{slice_get_read}
use Rattle.register_alloc.specs.Rounds.{mask_at, joined_masks}
use Rattle.register_alloc.proofs.Masks.{Round, round_begins, round_next}
use Rattle.register_alloc.proofs.written.round.Goals as goal

pub loop-f-init : goal.loop-f-init
loop-f-init c = round_begins _ _ c.requires

pub loop-f-preserved : goal.loop-f-preserved
loop-f-preserved c =
    let there : slice_get c.args.calls.now c.loop-f.f ≡ Some c.index-calls-f.result =
    slice_get_read c.args.calls.now (length c.args.calls.now) c.loop-f.f c.index-calls-f.result refl
    c.loop-f-test.true c.index-calls-f.is in
    let n : suc c.loop-f.f ≡ c.loop-f.f + 1 = omega arith in
    subst (λ k. Round c.args.calls.now c.args.masks.now.items c.grow-more.new.masks.items
    c.either-grew.result k) n
    (subst (λ b. Round c.args.calls.now c.args.masks.now.items c.grow-more.new.masks.items b
    (suc c.loop-f.f)) (sym c.either-grew.ensures)
    (round_next c.args.calls.now c.args.masks.now.items c.loop-f.masks.items
    c.grow-more.new.masks.items c.loop-f.grew c.grow-more.result c.loop-f.f
    c.index-calls-f.result
    there c.loop-f.invariant
    (subst (λ gs. c.grow-more.new.masks.items ≡ set c.loop-f.masks.items c.loop-f.f
    (joined_masks c.loop-f.masks.items (mask_at c.loop-f.masks.items c.loop-f.f) gs))
    c.as_slice.ensures c.grow-more.ensures.set)
    c.grow-more.ensures.closer
    (subst (λ gs. c.grow-more.result ≡ false → joined_masks c.loop-f.masks.items
    (mask_at c.loop-f.masks.items c.loop-f.f) gs ≡ mask_at c.loop-f.masks.items c.loop-f.f)
    c.as_slice.ensures c.grow-more.ensures.same)))

pub returns-clause-grows : goal.returns-clause-grows
returns-clause-grows c = c.loop-f.invariant.grows

pub returns-clause-closer : goal.returns-clause-closer
returns-clause-closer c = c.loop-f.invariant.closer

pub returns-clause-whole : goal.returns-clause-whole
returns-clause-whole c grew = λ f l. (c.loop-f.invariant.same_ones grew).1 f
    (omega (arith, l, c.loop-f-test.false))
