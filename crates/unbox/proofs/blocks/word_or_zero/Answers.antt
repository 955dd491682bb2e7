use Rattle.std.proofs.Common.{sym}
use Rattle.unbox.proofs.Loops.{word_there, word_past}
use Rattle.unbox.proofs.blocks.word_or_zero.Goals as goal

pub returns-in-Some : goal.returns-in-Some
returns-in-Some c = word_there c.args.words.now c.args.i _ (sym c.in-Some.ensures.value)

pub returns-in-None : goal.returns-in-None
returns-in-None c = word_past c.args.words.now c.args.i (sym c.in-None.ensures.value)
