use Rattle.std.proofs.Common.{◌/◌, refl}
use Rattle.points_to.proofs.InGroups.{put_in_group}
use Rattle.points_to.proofs.groups.put_number.Goals as goal

pub returns-clause-waits : goal.returns-clause-waits
returns-clause-waits c = put_in_group c.args.groups.now.items c.grow.new.groups.items c.args.n
    (c.args.n / 64) c.index.result.now c.with_bit.result c.in_ok-grow.ensures.same refl
    c.in_ok-grow.ensures.there c.index.ensures c.with_bit.ensures.set c.with_bit.ensures.others
