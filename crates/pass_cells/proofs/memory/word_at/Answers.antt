use Rattle.std.proofs.Common.{rules}
use Rattle.pass_cells.proofs.Listed.{word_some, word_none}
use Rattle.pass_cells.proofs.memory.word_at.Goals as goal

pub returns-in-Some : goal.returns-in-Some
returns-in-Some c = word_some c.args.words.now c.args.i c.in-Some.word.now (search rules)

pub returns-in-None : goal.returns-in-None
returns-in-None c = word_none c.args.words.now c.args.i (search rules)
