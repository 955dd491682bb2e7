use Rattle.std.proofs.Common.{take}
use Rattle.flow_system.specs.Shown.{tables_of, inclusions_of}
use Rattle.points_to.specs.Known.{held}
use Rattle.points_to.specs.Rows.{words_in, GainsMembers}
use Rattle.points_to.specs.Stored.{values_in}
use Rattle.points_to.specs.ValueWords.{words_of_values}
use Rattle.points_to.proofs.stored_tags.put_all_first_words.Given as goal

abbrev pub invariant-loop-n : goal.invariant-loop-n
invariant-loop-n l = GainsMembers (words_in l.initial.set) (words_in l.set)
    (words_of_values (tables_of l.system) (values_in (inclusions_of l.system)) (held l.facts) 0
    (take l.n-index l.numbers))
