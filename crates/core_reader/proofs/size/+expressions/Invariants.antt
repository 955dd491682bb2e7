use Rattle.std.proofs.Common.{◌≡◌, ◌+◌, drop, map}
use Rattle.core_reader.specs.Tree.{alternative, alts_of}
use Rattle.core_reader.specs.Size.{alts_size}
use Rattle.core_reader.proofs.size.+expressions.Given as goal

abbrev pub invariant-alternatives_size-loop-alt : goal.invariant-alternatives_size-loop-alt
invariant-alternatives_size-loop-alt l = l.total + alts_size
    (alts_of (map alternative (drop l.alt-index l.alts))) ≡ alts_size
    (alts_of (map alternative l.alts))
