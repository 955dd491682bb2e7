use Rattle.std.proofs.Common.{rules, pos}
use Rattle.grin_syntax.specs.declared.program.Word.TheVariants.{Lit}
use Rattle.pass_ground.proofs.Mentions.{words_next}
use Rattle.pass_ground.proofs.uses.words_use.Goals as goal

pub loop-word-preserved : goal.loop-word-preserved
loop-word-preserved c = words_next c.args.x.0 c.args.words.now c.loop-word.word-index (Lit (pos 0))
    _ _ _ c.loop-word-test.true (search rules) c.either-used.ensures c.loop-word.invariant
