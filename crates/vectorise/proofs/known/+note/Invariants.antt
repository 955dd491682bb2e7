use Rattle.std.proofs.Common.{take}
use Rattle.vectorise.proofs.Loops.{StmtsNoted, ArmsNoted}
use Rattle.vectorise.proofs.known.+note.Given as goal

abbrev pub invariant-note_alts-loop-alt : goal.invariant-note_alts-loop-alt
invariant-note_alts-loop-alt l = ArmsNoted l.layout l.fields (take l.alt-index l.alts)
    l.initial.known l.known

abbrev pub invariant-note_block-loop-stmt : goal.invariant-note_block-loop-stmt
invariant-note_block-loop-stmt l = StmtsNoted l.layout (take l.stmt-index l.stmt-items)
    l.initial.known l.known
