use Rattle.std.proofs.Common.{◌≡◌, ◌++◌, length}
use Rattle.points_to.specs.Bits.{block_numbers}
use Rattle.points_to.specs.Known.{held}
use Rattle.points_to.specs.PartWords.{part_of_values}
use Rattle.points_to.specs.Stored.{tables_in}
use Rattle.points_to.proofs.parts.put_block.Given as goal

abbrev pub invariant-values : goal.invariant-values
invariant-values l =
    l.out ++ part_of_values (tables_in l.origin) l.origin.values (held l.facts) l.part l.left
    ≡ l.initial.out ++ part_of_values (tables_in l.origin) l.origin.values (held l.facts) l.part
    (block_numbers l.fn.block)

abbrev pub decreases-values : goal.decreases-values
decreases-values l = length l.left
