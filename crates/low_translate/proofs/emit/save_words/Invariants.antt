use Rattle.std.proofs.Common.{drop}
use Rattle.low_translate.specs.Translation.{save_all}
use Rattle.low_translate.proofs.Emitting.{Leaves}
use Rattle.low_translate.proofs.emit.save_words.Given as goal

abbrev pub invariant-loop-i : goal.invariant-loop-i
invariant-loop-i l = Leaves l.initial.made l.made (save_all l.cell 0 l.words)
    (save_all l.cell l.i (drop l.i l.words))
