use Rattle.std.proofs.Common.{take}
use Rattle.pass_ground.proofs.Mentions.{StmtsMention, ArmsMention}
use Rattle.pass_ground.proofs.uses.+mentions.Given as goal

abbrev pub invariant-alts_mention-loop-alt : goal.invariant-alts_mention-loop-alt
invariant-alts_mention-loop-alt l = ArmsMention l.fetched l.x.0 (take l.alt-index l.alts) l.used

abbrev pub invariant-block_mentions-loop-stmt : goal.invariant-block_mentions-loop-stmt
invariant-block_mentions-loop-stmt l = StmtsMention l.fetched l.x.0 (take l.stmt-index l.stmt-items)
    l.used
