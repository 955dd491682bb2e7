-- One round more.
use Rattle.std.proofs.Common.{arith}
use Rattle.generator.proofs.Rounds.{state_after, lines_after}
use Rattle.generator.proofs.program.generated.Goals as goal

pub loop-before-preserved : goal.loop-before-preserved
loop-before-preserved c =
    let i = c.loop-before.invariant in
    let round = c.round-round.ensures in
    record {
      done = omega arith;
      state = state_after c.args.seed c.loop-before.before _ _ round.state i.state;
      lines =
          lines_after c.args.seed c.loop-before.before _ _ _ _ i.state round.round i.lines
          c.in_ok-put_round.ensures;
    }
