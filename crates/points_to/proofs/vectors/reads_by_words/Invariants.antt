use Rattle.points_to.proofs.VectorLoops.{WordsBefore}
use Rattle.points_to.proofs.vectors.reads_by_words.Given as goal

abbrev pub invariant-loop-inclusion : goal.invariant-loop-inclusion
invariant-loop-inclusion l = WordsBefore l.inclusion-items l.inclusion-index
