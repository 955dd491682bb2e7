use Rattle.points_to.proofs.InGroups.{none_at_all}
use Rattle.points_to.proofs.groups.down_or_up.Goals as goal

pub returns-in-None-next_up-clause-none : goal.returns-in-None-next_up-clause-none
returns-in-None-next_up-clause-none c = none_at_all c.args.groups.now c.args.at
    c.in-None-next_up.ensures.none c.in-None.ensures.none
