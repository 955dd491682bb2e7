use Rattle.std.proofs.Common.{rules, ◌<◌, length}
use Rattle.parallel_move.proofs.Ordered.{one_more}
use Rattle.parallel_move.proofs.in_order.Goals as goal

pub loop-i-preserved : goal.loop-i-preserved
loop-i-preserved c =
    let more : c.loop-i.i < length c.args.moves.now = search rules in
    one_more c.args.moves.now c.loop-i.pending.keys c.insert.new.self.keys c.loop-i.i _ more
    c.loop-i.invariant (c.in_ok-insert.ensures {u = tt}).keys
