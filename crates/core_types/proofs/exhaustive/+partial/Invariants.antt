use Rattle.std.proofs.Common.{◌≡◌, drop, map}
use Rattle.core_reader.specs.Tree.{alternative, alts_of}
use Rattle.core_types.specs.SourceOf.{type_of}
use Rattle.core_types.specs.Found.{partial_in_alts}
use Rattle.core_types.proofs.exhaustive.+partial.Given as goal

abbrev pub invariant-partial_in_alts-loop-alt : goal.invariant-partial_in_alts-loop-alt
invariant-partial_in_alts-loop-alt l = partial_in_alts (map type_of l.types) l.first
    (alts_of (map alternative (drop l.alt-index l.alts))) ≡ partial_in_alts (map type_of l.types)
    l.initial.first (alts_of (map alternative l.alts))
