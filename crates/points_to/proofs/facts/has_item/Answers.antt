use Rattle.points_to.proofs.Sets.{found_some, found_none}
use Rattle.points_to.proofs.facts.has_item.Goals as goal

pub returns-in-Some : goal.returns-in-Some
returns-in-Some c = found_some c.args.sets.now c.args.n c.in-Some.set.now c.args.item c.has.result
    c.in-Some.ensures.lookup.3.0 c.in-Some.ensures.lookup.1 c.has.ensures

pub returns-in-None : goal.returns-in-None
returns-in-None c = found_none c.args.sets.now c.args.n c.args.item c.in-None.ensures.lookup.3
