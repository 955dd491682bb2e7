use Rattle.std.proofs.Common.{arith, rules}
use Rattle.copy_prop.proofs.Used.{latest_next}
use Rattle.copy_prop.proofs.uses.Uses.note.Goals as goal

pub invariant_of-self-2 : goal.invariant_of-self-2
invariant_of-self-2 c =
    rw c.in_ok-push-2.ensures.items
    (latest_next _ _ c.args.x.0 _ c.loop.invariant.table
    (omega (arith, c.loop.invariant.many, c.loop-test.false)) (search rules))
