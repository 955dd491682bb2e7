use Rattle.std.proofs.Common.{◌≡◌, ◌++◌, length}
use Rattle.points_to.specs.Bits.{block_numbers}
use Rattle.points_to.proofs.stored.list_block.Given as goal

abbrev pub invariant-numbers : goal.invariant-numbers
invariant-numbers l = l.out ++ l.left ≡ l.initial.out ++ block_numbers l.fn.block

abbrev pub decreases-numbers : goal.decreases-numbers
decreases-numbers l = length l.left
