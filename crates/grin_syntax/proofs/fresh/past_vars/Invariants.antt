use Rattle.std.proofs.Common.{◌≡◌, take}
use Rattle.grin_syntax.specs.Fresh.{past_vars}
use Rattle.grin_syntax.proofs.fresh.past_vars.Given as goal

abbrev pub invariant-loop-var : goal.invariant-loop-var
invariant-loop-var l = l.past ≡ past_vars (take l.var-index l.vars)
