use Rattle.points_to.proofs.InGroups.{none_at_all}
use Rattle.points_to.proofs.groups.up_or_down.Goals as goal

pub returns-in-None-next_down-clause-none : goal.returns-in-None-next_down-clause-none
returns-in-None-next_down-clause-none c = none_at_all c.args.groups.now c.args.at
    c.in-None.ensures.none c.in-None-next_down.ensures.none
