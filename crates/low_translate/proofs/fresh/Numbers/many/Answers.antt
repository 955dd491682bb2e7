use Rattle.std.proofs.Common.{arith}
use Rattle.low_translate.proofs.Items.{numbers_next}
use Rattle.low_translate.proofs.fresh.Numbers.many.Goals as goal

pub loop-preserved : goal.loop-preserved
loop-preserved c = record {
  some = numbers_next c.args.self.now.next c.loop.counter c.loop.self.next _ _ _
      c.loop.invariant.taken c.loop.invariant.some c.in_ok-one.ensures.is c.in_ok-push.ensures.ok;
  taken = omega (arith, c.in_ok-one.ensures.next, c.loop.invariant.taken);
}
