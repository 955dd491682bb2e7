use Rattle.std.proofs.Common.{◌≡◌, ◌++◌}
use Rattle.rv32_select.specs.IsSelected.{moves_between}
use Rattle.rv32_select.proofs.context.moves_between.Given as goal

abbrev pub invariant-loop-to : goal.invariant-loop-to
invariant-loop-to l = l.moves.items ++ moves_between l.to-iterator.a.rest.now
    l.to-iterator.b.rest.now ≡ moves_between l.to l.from
