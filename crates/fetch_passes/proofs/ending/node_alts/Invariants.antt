use Rattle.std.proofs.Common.{take}
use Rattle.fetch_passes.proofs.Ends.{NodeArms}
use Rattle.fetch_passes.proofs.ending.node_alts.Given as goal

abbrev pub invariant-loop-at : goal.invariant-loop-at
invariant-loop-at l = NodeArms l.vars (take l.at l.tags) l.alts
