use Rattle.std.proofs.Common.{drop}
use Rattle.low_translate.specs.Translation.{load_all}
use Rattle.low_translate.proofs.Emitting.{Leaves}
use Rattle.low_translate.proofs.emit.load_words.Given as goal

abbrev pub invariant-loop-i : goal.invariant-loop-i
invariant-loop-i l = Leaves l.initial.made l.made (load_all l.width l.vars l.cell 0)
    (load_all l.width (drop l.i l.vars) l.cell l.i)
