use Rattle.std.proofs.Common.{take}
use Rattle.std.specs.List.{flat_map}
use Rattle.points_to.specs.Bits.{block_numbers}
use Rattle.points_to.specs.Rows.{numbers_in, GainsMembers}
use Rattle.points_to.proofs.bits.Bits.add_all.Given as goal

abbrev pub invariant-loop-block : goal.invariant-loop-block
invariant-loop-block l = GainsMembers (numbers_in l.initial.self) (numbers_in l.self)
    (flat_map block_numbers (take l.block-index l.blocks))
