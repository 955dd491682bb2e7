use Rattle.std.proofs.Common.{◌≡◌, ◌++◌, drop}
use Rattle.parallel_move.specs.Moves.{AllMoveEnds}
use Rattle.rv32_select.specs.Emit.{plain, moves_code}
use Rattle.rv32_select.specs.Ranges.{in_range}
use Rattle.rv32_select.proofs.code.Code.moves.Given as goal

abbrev pub invariant-loop-m : goal.invariant-loop-m
invariant-loop-m l =
    (l.self ++ plain (moves_code (drop l.m-index l.moves)) ≡ l.initial.self
    ++ plain (moves_code l.moves)) × AllMoveEnds in_range (drop l.m-index l.moves)
