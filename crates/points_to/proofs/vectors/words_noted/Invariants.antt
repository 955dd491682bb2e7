use Rattle.flow_system.specs.Shown.{tables_of, inclusions_of}
use Rattle.points_to.specs.Known.{held}
use Rattle.points_to.specs.Kept.{WordsExact}
use Rattle.points_to.proofs.vectors.words_noted.Given as goal

abbrev pub invariant-loop-inclusion : goal.invariant-loop-inclusion
invariant-loop-inclusion l = WordsExact (tables_of l.system) (inclusions_of l.system) (held l.facts)
    l.words
