use Rattle.std.proofs.Common.{◌≡◌, ◌++◌, drop}
use Rattle.flow_system.specs.Shown.{tables_of}
use Rattle.points_to.specs.Held.{numbered}
use Rattle.points_to.specs.Known.{held}
use Rattle.points_to.specs.Numbering.{numbered_part}
use Rattle.points_to.proofs.give.numbered.Given as goal

abbrev pub invariant-loop-word : goal.invariant-loop-word
invariant-loop-word l = l.out ++ numbered (tables_of l.system) (held l.facts)
    (numbered_part l.numbering) l.j (drop l.word-index l.words) ≡ l.initial.out
    ++ numbered (tables_of l.system) (held l.facts) (numbered_part l.numbering) l.first l.words
