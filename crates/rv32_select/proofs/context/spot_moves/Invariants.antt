use Rattle.std.proofs.Common.{◌≡◌, ◌++◌}
use Rattle.rv32_select.specs.Emit.{spot_moves}
use Rattle.rv32_select.proofs.context.spot_moves.Given as goal

abbrev pub invariant-loop-to : goal.invariant-loop-to
invariant-loop-to l = l.moves.items ++ spot_moves l.to-iterator.a.rest.now l.to-iterator.b.rest.now
    ≡ spot_moves l.to l.from
