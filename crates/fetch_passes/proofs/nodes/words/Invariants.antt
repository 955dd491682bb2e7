use Rattle.std.proofs.Common.{take}
use Rattle.grin_syntax.specs.Tree.{Code}
use Rattle.fetch_passes.specs.Asked.{IsWindow}
use Rattle.fetch_passes.proofs.Grows.{WordsSoFar}
use Rattle.fetch_passes.proofs.nodes.words.Given as goal

abbrev pub invariant-loop-at : goal.invariant-loop-at
invariant-loop-at l = (b : Code) → IsWindow l.notes l.tag.0 b l.window
    → WordsSoFar l.tag.0 b l.cell (take l.at l.vars) l.initial.made l.made l.waits
