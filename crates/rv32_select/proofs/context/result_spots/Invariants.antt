use Rattle.std.proofs.Common.{◌≡◌, ◌++◌, ◌+◌, ◌-◌}
use Rattle.rv32_select.specs.Emit.{result_spots}
use Rattle.rv32_select.proofs.context.result_spots.Given as goal

abbrev pub invariant-loop-i : goal.invariant-loop-i
invariant-loop-i l = l.spots.items ++ result_spots (10 + l.i) (l.n - l.i) ≡ result_spots 10 l.n
