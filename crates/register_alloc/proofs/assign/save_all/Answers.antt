use Rattle.std.proofs.Common.{◌++◌, length, refl, subst}
use Rattle.std.proofs.lemmas.Option.{slice_get_read}
use Rattle.register_alloc.proofs.Tables.{saves_next, take_whole}
use Rattle.register_alloc.proofs.Walked.{nothing_more}
use Rattle.register_alloc.specs.Gathered.{SavesMatchCalls}
use Rattle.register_alloc.proofs.assign.save_all.Goals as goal

pub loop-call-init : goal.loop-call-init
loop-call-init c done h = subst (λ l. SavesMatchCalls c.args.masks.now l c.args.saves.now.items)
    (nothing_more done) h

pub loop-call-preserved : goal.loop-call-preserved
loop-call-preserved c =
    let there = slice_get_read c.args.calls.now (length c.args.calls.now) c.loop-call.call-index
    c.call-item.result refl c.loop-call-test.true c.call-item.is in
    saves_next c.args.masks.now c.args.calls.now c.loop-call.call-index c.call-item.result
    c.args.saves.now.items c.loop-call.saves.items c.save.new.saves.items there
    c.in_ok-save.ensures c.loop-call.invariant

pub returns : goal.returns
returns c done h = subst (λ l. SavesMatchCalls c.args.masks.now (done ++ l) c.loop-call.saves.items)
    (take_whole c.args.calls.now c.loop-call.call-index c.loop-call-test.false)
    (c.loop-call.invariant done h)
