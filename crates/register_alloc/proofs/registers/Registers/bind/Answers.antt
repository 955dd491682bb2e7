use Rattle.std.proofs.Common.{refl}
use Rattle.register_alloc.proofs.GivingPlaces.{binds_by}
use Rattle.register_alloc.proofs.registers.Registers.bind.Goals as goal

pub returns-clause-bound : goal.returns-clause-bound
returns-clause-bound c =
    binds_by c.args.text.now c.args.variables.now c.args.end c.args.self.now c.args.self.now
    c.give_all.new.self c.args.holders.now.of.items c.in_ok-live.live.of.items
    c.give_all.new.holders.of.items
    c.in_ok-live.ensures (record { at = refl; block = refl })
    (record { slots = refl; given = refl }) c.in_ok-give_all.ensures.giving
    c.in_ok-give_all.ensures.stays
