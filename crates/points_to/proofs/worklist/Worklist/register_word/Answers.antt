use Rattle.std.proofs.Common.{ap}
use Rattle.points_to.specs.Reads.{word_reads}
use Rattle.points_to.proofs.Registered.{registers_when_none}
use Rattle.points_to.proofs.worklist.Worklist.register_word.Goals as goal

pub returns-in-Lit : goal.returns-in-Lit
returns-in-Lit c = registers_when_none c.args.n c.args.self.now _ (ap word_reads c.in-Lit.is)

pub returns-in-Global : goal.returns-in-Global
returns-in-Global c = registers_when_none c.args.n c.args.self.now _ (ap word_reads c.in-Global.is)

pub returns-in-TagWord : goal.returns-in-TagWord
returns-in-TagWord c = registers_when_none c.args.n c.args.self.now _
    (ap word_reads c.in-TagWord.is)
