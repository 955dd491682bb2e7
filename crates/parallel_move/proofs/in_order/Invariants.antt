use Rattle.std.proofs.Common.{drop, ◌++◌}
use Rattle.parallel_move.specs.Moves.{IsReordered}
use Rattle.parallel_move.proofs.in_order.Given as goal

abbrev pub invariant-loop-i : goal.invariant-loop-i
invariant-loop-i l = IsReordered l.moves (l.pending.keys ++ drop l.i l.moves)
