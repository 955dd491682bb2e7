use Rattle.std.proofs.Common.{◌≡◌, max, length, refl, ◌∙◌, rules}
use Rattle.std.proofs.lemmas.Option.{slice_get_read}
use Rattle.register_alloc.proofs.Tables.{longest_next}
use Rattle.register_alloc.proofs.assign.most_saved.Goals as goal

pub loop-call-preserved : goal.loop-call-preserved
loop-call-preserved c =
    let there = slice_get_read c.args.calls.now (length c.args.calls.now) c.loop-call.call-index
    c.call-item.result refl c.loop-call-test.true c.call-item.is in
    let most : c.max-most.result ≡ max c.loop-call.most c.many_saved.result = search rules in
    most ∙ longest_next c.args.saves.now c.args.calls.now c.loop-call.call-index c.call-item.result
    c.loop-call.most c.many_saved.result there c.loop-call.invariant c.many_saved.ensures
