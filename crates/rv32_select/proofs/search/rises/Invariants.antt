use Rattle.std.proofs.Common.{drop, None}
use Rattle.rv32_select.specs.Emitting.{TestsAscend}
use Rattle.rv32_select.proofs.search.rises.Given as goal

abbrev pub invariant-loop-arm : goal.invariant-loop-arm
invariant-loop-arm l = TestsAscend l.word l.low None (drop l.arm-index l.arms)
    → TestsAscend l.word 0 None l.arms
