use Rattle.low_translate.proofs.Operations.{write_done}
use Rattle.low_translate.proofs.blocks.LoweringPlan.plain.Goals as goal

pub returns-in_ok-set_words-in-Write : goal.returns-in_ok-set_words-in-Write
returns-in_ok-set_words-in-Write c = write_done c.args.self.now.width c.args.self.now.results.now
    c.args.numbers.now.next c.args.vars.now _ c.in-Write.word _ _ _ _ c.in-Write.is
    c.operand-in-Write.ensures.is c.operand-in-Write.ensures.ranged c.in_ok-emit-in-Write.ensures
    c.in_ok-set_words-in-Write.ensures
