use Rattle.std.proofs.Common.{rules}
use Rattle.low_translate.proofs.Items.{sets_step}
use Rattle.low_translate.proofs.Emitting.{leaves_more, adds_set}
use Rattle.low_translate.proofs.emit.set_words.Goals as goal

pub loop-i-preserved : goal.loop-i-preserved
loop-i-preserved c = leaves_more _ _ _ _ _ _ _ c.loop-i.invariant
    (adds_set _ _ _ _ c.in_ok-emit.ensures)
    (sets_step c.args.vars.now c.args.words.now c.loop-i.i _ (search rules)
    c.operand_or_zero.ensures)
