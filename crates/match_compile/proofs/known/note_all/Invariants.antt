use Rattle.std.proofs.Common.{drop}
use Rattle.match_compile.proofs.Knowing.{Completes}
use Rattle.match_compile.proofs.known.note_all.Given as goal

abbrev pub invariant-loop-branch : goal.invariant-loop-branch
invariant-loop-branch l = Completes l.known.keys (drop l.branch-index l.branches) l.branches
