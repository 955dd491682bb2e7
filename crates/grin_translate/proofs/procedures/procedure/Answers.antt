use Rattle.std.proofs.Common.{[]}
use Rattle.arity_check.specs.Program.{program}
use Rattle.grin_translate.specs.Blocks.{local}
use Rattle.grin_translate.proofs.Lookups.{zero_pushed}
use Rattle.grin_translate.proofs.procedures.procedure.Goals as goal

pub loop-x-preserved : goal.loop-x-preserved
loop-x-preserved c = zero_pushed (local (program c.args.p.now) c.args.variables.now.base) c.loop-x.x
    [] c.loop-x.made c.push.new.self c.in_ok-local.local c.in_ok-push.ensures.ok c.loop-x.invariant
    c.in_ok-local.ensures
