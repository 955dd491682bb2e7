use Rattle.std.proofs.Common.{arith}
use Rattle.image_trace.specs.Places.{times_noted}
use Rattle.image_trace.proofs.Counted.{done_more}
use Rattle.image_trace.proofs.places.Places.done_within.Goals as goal

pub loop-left-preserved : goal.loop-left-preserved
loop-left-preserved c =
    let inv = c.loop-left.invariant in
    let some = c.loop-left-test.true in
    let more = done_more (times_noted c.args.self.now) c.loop-left.left c.loop-left.at some in
    let few = c.requires c.loop-left.at in
    let is = c.times-sum.ensures in
    let kept = inv.kept in
    record {
      kept = omega (arith, more, is, kept);
      there = omega (arith, inv.there, some);
      few = omega (arith, inv.few, few, is, some);
    }
