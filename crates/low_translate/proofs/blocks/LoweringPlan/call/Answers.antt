use Rattle.std.proofs.Common.{rules}
use Rattle.low_translate.proofs.Operations.{call_done}
use Rattle.low_translate.proofs.blocks.LoweringPlan.call.Goals as goal

pub returns : goal.returns
returns c = call_done c.args.self.now.width c.args.self.now.results.now c.args.numbers.now.next
    c.one.new.self.next _ c.args.vars.now c.args.f c.args.words.now c.in_ok-site.site
    c.results-count.result _ c.in_ok-into.into c.in_ok-more.more _ _ _ _ _ _ c.in_ok-site.ensures.is
    c.in_ok-site.ensures.next c.results-count.ensures c.front.ensures c.in_ok-into.ensures
    (search rules) (search rules) c.in_ok-append.ensures.ok c.in_ok-arguments.ensures.is
    c.in_ok-arguments.ensures.ranged c.in_ok-emit.ensures c.past.ensures c.in_ok-set_words.ensures
