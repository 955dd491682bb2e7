use Rattle.std.proofs.Common.{length, refl}
use Rattle.std.proofs.lemmas.Option.{slice_get_read}
use Rattle.register_alloc.proofs.Tables.{procs_next}
use Rattle.register_alloc.proofs.assign.callees.Goals as goal

pub loop-call-preserved : goal.loop-call-preserved
loop-call-preserved c =
    let there = slice_get_read c.args.calls.now (length c.args.calls.now) c.loop-call.call-index
    c.call-item.result refl c.loop-call-test.true c.call-item.is in
    procs_next c.args.calls.now c.loop-call.call-index c.call-item.result c.loop-call.procs
    c.push.new.self there c.loop-call.invariant c.in_ok-push.ensures.ok
