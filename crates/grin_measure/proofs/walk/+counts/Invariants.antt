use Rattle.std.proofs.Common.{take}
use Rattle.grin_measure.proofs.Loops.{Statements, Alternatives}
use Rattle.grin_measure.proofs.walk.+counts.Given as goal

abbrev pub invariant-block-loop-stmt : goal.invariant-block-loop-stmt
invariant-block-loop-stmt l = Statements (take l.stmt-index l.stmt-items) l.counts

abbrev pub invariant-alternatives-loop-alt : goal.invariant-alternatives-loop-alt
invariant-alternatives-loop-alt l = Alternatives (take l.alt-index l.alts) l.counts
