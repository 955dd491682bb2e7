use Rattle.std.proofs.Common.{rules}
use Rattle.points_to.proofs.Sets.{at_none}
use Rattle.points_to.proofs.facts.list_words.Goals as goal

pub returns-in-None : goal.returns-in-None
returns-in-None c = rw (at_none c.args.sets.now c.args.n c.in-None.ensures.lookup.3) (search rules)
