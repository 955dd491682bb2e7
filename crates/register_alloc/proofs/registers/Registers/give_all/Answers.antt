use Rattle.std.proofs.lemmas.Option.{slice_get-get_or}
use Rattle.register_alloc.proofs.GivingPlaces.{nothing_given, next_given, all_given}
use Rattle.register_alloc.proofs.registers.Registers.give_all.Goals as goal

pub loop-i-init : goal.loop-i-init
loop-i-init c = nothing_given c.args.self.now c.args.holders.now.of.items

pub loop-i-preserved : goal.loop-i-preserved
loop-i-preserved c =
    next_given c.args.variables.now c.loop-i.i _ c.args.self.now c.loop-i.self c.give.new.self
    c.args.holders.now.of.items c.loop-i.holders.of.items c.give.new.holders.of.items
    (slice_get-get_or c.args.variables.now c.loop-i.i _ c.loop-i-test.true) c.loop-i.invariant
    c.in_ok-give.ensures

pub returns-clause-giving : goal.returns-clause-giving
returns-clause-giving c =
    (all_given c.args.variables.now c.loop-i.i c.args.self.now c.loop-i.self
    c.args.holders.now.of.items c.loop-i.holders.of.items c.loop-i-test.false
    c.loop-i.invariant).giving

pub returns-clause-adds : goal.returns-clause-adds
returns-clause-adds c =
    (all_given c.args.variables.now c.loop-i.i c.args.self.now c.loop-i.self
    c.args.holders.now.of.items c.loop-i.holders.of.items c.loop-i-test.false
    c.loop-i.invariant).adds
