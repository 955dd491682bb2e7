use Rattle.std.proofs.Common.{rules}
use Rattle.low_translate.proofs.Items.{saves_step}
use Rattle.low_translate.proofs.Emitting.{leaves_more, adds_save}
use Rattle.low_translate.proofs.emit.save_words.Goals as goal

pub loop-i-preserved : goal.loop-i-preserved
loop-i-preserved c = leaves_more _ _ _ _ _ _ _ c.loop-i.invariant
    (adds_save _ _ _ _ _ c.in_ok-emit.ensures)
    (saves_step c.args.cell c.args.words.now c.loop-i.i _ (search rules))
