use Rattle.std.proofs.Common.{◌≡◌, ◌++◌, drop}
use Rattle.rv32_select.specs.Emit.{argument_spots}
use Rattle.rv32_select.proofs.context.spots_for.Given as goal

abbrev pub invariant-loop-i : goal.invariant-loop-i
invariant-loop-i l = l.spots.items ++ argument_spots l.i (drop l.i l.places) ≡ argument_spots 0
    l.places
