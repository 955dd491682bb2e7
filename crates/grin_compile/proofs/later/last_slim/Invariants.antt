use Rattle.std.proofs.Common.{◌≤◌, map, length}
use Rattle.grin_syntax.specs.Tree.{program_of}
use Rattle.grin_compile.specs.Passed.{SlimBeside}
use Rattle.grin_compile.proofs.Passed.{NoneFrom}
use Rattle.grin_compile.proofs.later.last_slim.Given as goal

abbrev pub invariant-loop-end : goal.invariant-loop-end
invariant-loop-end l = (l.end ≤ length l.stages) × NoneFrom (SlimBeside l.sizes)
    (map program_of l.stages) l.end

abbrev pub decreases-loop-end : goal.decreases-loop-end
decreases-loop-end l = l.end
