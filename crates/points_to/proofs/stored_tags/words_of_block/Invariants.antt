use Rattle.std.proofs.Common.{◌≡◌, ◌++◌, length}
use Rattle.flow_system.specs.Shown.{tables_of, inclusions_of}
use Rattle.points_to.specs.Bits.{block_numbers}
use Rattle.points_to.specs.Known.{held}
use Rattle.points_to.specs.Stored.{values_in}
use Rattle.points_to.specs.ValueWords.{words_of_values}
use Rattle.points_to.proofs.stored_tags.words_of_block.Given as goal

abbrev pub invariant-values : goal.invariant-values
invariant-values l =
    l.out ++ words_of_values (tables_of l.system) (values_in (inclusions_of l.system))
    (held l.facts) l.i l.left
    ≡ l.initial.out ++ words_of_values (tables_of l.system) (values_in (inclusions_of l.system))
    (held l.facts) l.i (block_numbers l.fn.block)

abbrev pub decreases-values : goal.decreases-values
decreases-values l = length l.left
