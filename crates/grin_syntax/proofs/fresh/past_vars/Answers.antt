use Rattle.std.proofs.Common.{rules}
use Rattle.grin_syntax.proofs.Past.{past_vars_next}
use Rattle.grin_syntax.proofs.fresh.past_vars.Goals as goal

pub loop-var-preserved : goal.loop-var-preserved
loop-var-preserved c = past_vars_next c.args.vars.now c.loop-var.var-index (record { 0 = 0 }) _ _
    c.loop-var-test.true (search rules) c.loop-var.invariant
