use Rattle.std.proofs.Common.{arith}
use Rattle.system_io.proofs.Bytes.{appends_more, rest_of}
use Rattle.system_io.proofs.writer.write_whole.Goals as goal

pub loop-done-preserved : goal.loop-done-preserved
loop-done-preserved g c =
    let piece = c.args.piece.now in
    let done = c.loop-done.done in
    let before = c.loop-done.invariant in
    let wrote = c.in_ok-done.ensures in (
      omega (arith, before.0, wrote.cause.later),
      (
        omega (arith, before.1.0, wrote.within.1),
        appends_more _ _ _ piece _ done c.in_ok-done.field-0 (rest_of piece done) before.1.1
            wrote.bytes,
      ),
    )
