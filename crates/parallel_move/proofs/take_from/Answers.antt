use Rattle.std.proofs.Common.{sym, ◌∙◌}
use Rattle.parallel_move.proofs.Ordered.{next_found}
use Rattle.parallel_move.proofs.take_from.Goals as goal

pub returns : goal.returns
returns c = next_found c.new.result.start c.new.result.end c.args.spot c.args.pending.now.keys
    c.range.result c.next.new.self _ c.next.result c.in-Some.found c.new.ensures.start
    c.new.ensures.end (c.range.ensures.between c.new.ensures.exhausted) c.next.ensures.steps
    (sym c.in-Some.is ∙ c.copied.ensures) c.remove.ensures.keys
