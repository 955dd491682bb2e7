use Rattle.std.proofs.Common.{rules}
use Rattle.low_translate.proofs.Operations.{tail_done}
use Rattle.low_translate.proofs.blocks.LoweringPlan.last_call.Goals as goal

pub returns : goal.returns
returns c = tail_done c.args.self.now.width c.args.self.now.results.now c.args.numbers.now.next _
    c.args.goal c.args.f c.args.words.now _ _ _ (search rules) c.in_ok-site.ensures.is
    c.in_ok-site.ensures.next c.in_ok-arguments.ensures.is c.in_ok-arguments.ensures.ranged
