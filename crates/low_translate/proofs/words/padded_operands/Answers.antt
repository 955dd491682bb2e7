use Rattle.low_translate.proofs.Items.{fitted_next}
use Rattle.low_translate.proofs.words.padded_operands.Goals as goal

pub loop-i-preserved : goal.loop-i-preserved
loop-i-preserved c = fitted_next c.loop-i.i c.args.words.now _ _ _ c.loop-i.invariant
    c.operand_or_zero.ensures c.in_ok-push.ensures.ok
