use Rattle.std.proofs.Common.{◌≡◌, drop}
use Rattle.std.specs.Prelude.{◌||◌}
use Rattle.low_code.specs.Formed.{used_by_tests}
use Rattle.seq.specs.Lists.{is_among}
use Rattle.rv32_select.proofs.decides.are_testing.Given as goal

abbrev pub invariant-loop-test : goal.invariant-loop-test
invariant-loop-test l = (l.found || is_among l.variable (used_by_tests (drop l.test-index l.tests)))
    ≡ is_among l.variable (used_by_tests l.tests)
