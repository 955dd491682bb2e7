use Rattle.std.proofs.Common.{rules, arith}
use Rattle.grin_syntax.proofs.Past.{variables_more}
use Rattle.grin_syntax.proofs.fresh.Fresh.variables.Goals as goal

pub loop-preserved : goal.loop-preserved
loop-preserved c = record {
  some = variables_more c.loop.counter c.args.self.now.next c.loop.self.next _ _ _
      c.loop.invariant.taken c.loop.invariant.some c.in_ok-variable.ensures.is (search rules);
  taken = omega (arith, c.in_ok-variable.ensures.next);
}
