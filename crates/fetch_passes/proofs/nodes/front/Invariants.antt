use Rattle.std.proofs.Common.{take}
use Rattle.grin_syntax.specs.Tree.{code_of}
use Rattle.fetch_passes.proofs.Grows.{FrontSoFar}
use Rattle.fetch_passes.proofs.nodes.front.Given as goal

abbrev pub invariant-loop-wait : goal.invariant-loop-wait
invariant-loop-wait l = FrontSoFar l.cell l.initial.fresh.next l.fresh.next
    (take l.wait-index l.waits) (code_of l.body) l.initial.names l.names l.made
