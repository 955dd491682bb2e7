use Rattle.std.proofs.Common.{◌≡◌, drop}
use Rattle.match_compile.proofs.Decides.{all_tests}
use Rattle.match_compile.proofs.decide.are_names.Given as goal

abbrev pub invariant-loop-pat : goal.invariant-loop-pat
invariant-loop-pat l = all_tests (drop l.pat-index l.pats) ≡ all_tests l.pats
