use Rattle.std.proofs.Common.{take}
use Rattle.grin_syntax.proofs.Past.{StmtsPast, ArmsPast}
use Rattle.grin_syntax.proofs.fresh.+past.Given as goal

abbrev pub invariant-past_block-loop-stmt : goal.invariant-past_block-loop-stmt
invariant-past_block-loop-stmt l = StmtsPast (take l.stmt-index l.stmt-items) l.past

abbrev pub invariant-past_alts-loop-alt : goal.invariant-past_alts-loop-alt
invariant-past_alts-loop-alt l = ArmsPast (take l.alt-index l.alts) l.past
