use Rattle.std.proofs.Common.{[], ◌+◌, refl}
use Rattle.arity_check.specs.declared.normal.Var.TheVariants.{Local}
use Rattle.grin_translate.proofs.Lookups.{one_pushed}
use Rattle.grin_translate.proofs.bodies.later_locals.Goals as goal

pub loop-x-preserved : goal.loop-x-preserved
loop-x-preserved c = one_pushed Local 1 c.loop-x.x [] c.loop-x.locals c.push.new.self
    (Local (1 + c.loop-x.x)) c.in_ok-push.ensures.ok c.loop-x.invariant refl
