use Rattle.std.proofs.Common.{take}
use Rattle.fetch_passes.proofs.Firsts.{ArmsTest}
use Rattle.fetch_passes.proofs.windows.tests_number.Given as goal

abbrev pub invariant-loop-alt : goal.invariant-loop-alt
invariant-loop-alt l = ArmsTest (take l.alt-index l.alts) l.tests
