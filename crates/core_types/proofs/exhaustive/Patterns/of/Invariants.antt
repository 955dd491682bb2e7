use Rattle.std.proofs.Common.{◌≡◌, drop, map}
use Rattle.core_reader.specs.Tree.{alternative, alts_of}
use Rattle.core_types.specs.Found.{no_patterns, with_patterns}
use Rattle.core_types.specs.Kept.{covered_patterns}
use Rattle.core_types.proofs.exhaustive.Patterns.of.Given as goal

abbrev pub invariant-loop-alt : goal.invariant-loop-alt
invariant-loop-alt l = with_patterns (covered_patterns l.patterns)
    (alts_of (map alternative (drop l.alt-index l.alts))) ≡ with_patterns no_patterns
    (alts_of (map alternative l.alts))
