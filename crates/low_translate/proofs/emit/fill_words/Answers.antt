use Rattle.std.proofs.Common.{rules}
use Rattle.low_translate.proofs.Items.{fills_step}
use Rattle.low_translate.proofs.Emitting.{leaves_more}
use Rattle.low_translate.proofs.emit.fill_words.Goals as goal

pub loop-i-preserved : goal.loop-i-preserved
loop-i-preserved c = leaves_more _ _ _ _ _ _ _ c.loop-i.invariant c.in_ok-fill.ensures
    (fills_step c.args.cell c.args.words.now c.loop-i.i _ (search rules))
