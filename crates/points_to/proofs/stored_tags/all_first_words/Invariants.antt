use Rattle.flow_system.specs.Shown.{tables_of, inclusions_of}
use Rattle.points_to.specs.Known.{held}
use Rattle.points_to.specs.Noted.{AreFirstWords}
use Rattle.points_to.specs.Stored.{values_in}
use Rattle.points_to.proofs.stored_tags.all_first_words.Given as goal

abbrev pub invariant-loop-inclusion : goal.invariant-loop-inclusion
invariant-loop-inclusion l = AreFirstWords (tables_of l.system) (values_in (inclusions_of l.system))
    (held l.facts) l.noted
