use Rattle.std.proofs.Common.{drop}
use Rattle.low_translate.specs.Translation.{fills}
use Rattle.low_translate.proofs.Emitting.{Leaves}
use Rattle.low_translate.proofs.emit.fill_words.Given as goal

abbrev pub invariant-loop-i : goal.invariant-loop-i
invariant-loop-i l = Leaves l.initial.made l.made (fills l.cell 0 l.words)
    (fills l.cell l.i (drop l.i l.words))
