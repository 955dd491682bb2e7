use Rattle.std.proofs.Common.{drop}
use Rattle.low_translate.specs.Translation.{set_all}
use Rattle.low_translate.proofs.Emitting.{Leaves}
use Rattle.low_translate.proofs.emit.set_words.Given as goal

abbrev pub invariant-loop-i : goal.invariant-loop-i
invariant-loop-i l = Leaves l.initial.made l.made (set_all l.vars l.words)
    (set_all (drop l.i l.vars) (drop l.i l.words))
