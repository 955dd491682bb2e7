use Rattle.std.proofs.Common.{◌≡◌, ◌+◌, drop}
use Rattle.match_compile.proofs.Decides.{all_tests}
use Rattle.match_compile.proofs.parts.+tests.Given as goal

abbrev pub invariant-tests_of-loop-pat : goal.invariant-tests_of-loop-pat
invariant-tests_of-loop-pat l = l.counted + all_tests (drop l.pat-index l.pats) ≡ l.initial.counted
    + all_tests l.pats
