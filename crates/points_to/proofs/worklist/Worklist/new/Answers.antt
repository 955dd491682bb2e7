use Rattle.std.proofs.Common.{arith}
use Rattle.flow_system.specs.Shown.{tables_of, inclusions_of}
use Rattle.points_to.proofs.UntilNoneWaits.{stands_at_first, shown_within}
use Rattle.points_to.proofs.worklist.Worklist.new.Goals as goal

pub returns : goal.returns
returns c = stands_at_first (tables_of c.args.system.now) (inclusions_of c.args.system.now) _
    c.new.ensures
    (λ n d e. c.in_ok-pending.ensures n
    (let lt = shown_within c.args.system.now.inclusions n d e in omega (arith, lt)))
