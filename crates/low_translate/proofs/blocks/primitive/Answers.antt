use Rattle.std.proofs.Common.{rules, get_or}
use Rattle.low_translate.proofs.Operations.{first_done, first_rest}
use Rattle.low_translate.proofs.Emitting.{adds_prim}
use Rattle.low_translate.proofs.blocks.primitive.Goals as goal

pub returns-in_ok-set_words-clause-is : goal.returns-in_ok-set_words-clause-is
returns-in_ok-set_words-clause-is c = first_done _ _ _ (get_or c.args.vars.now 0 0) c.args.vars.now
    _ _ (first_rest c.args.vars.now (search rules))
    (adds_prim _ _ _ _ _ _ _ _ _ c.operation.ensures c.operand-a.ensures.is c.operand-b.ensures.is
    c.in_ok-emit.ensures) c.in_ok-set_words.ensures
