use Rattle.std.proofs.Common.{◌≡◌, ◌++◌, map, length}
use Rattle.core_reader.specs.Tree.{function}
use Rattle.match_compile.specs.Translated.{each_of}
use Rattle.match_compile.proofs.Compiled.{backward}
use Rattle.match_compile.proofs.compile.add_others.Given as goal

abbrev pub invariant-decisions : goal.invariant-decisions
invariant-decisions l =
    map function l.others ++ each_of l.words (backward l.decisions)
    ≡ map function l.initial.others ++ each_of l.words (backward l.initial.decisions)

abbrev pub decreases-decisions : goal.decreases-decisions
decreases-decisions l = length l.decisions
