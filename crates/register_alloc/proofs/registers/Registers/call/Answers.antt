use Rattle.register_alloc.proofs.GivingPlaces.{binds_by, notes_by}
use Rattle.register_alloc.proofs.registers.Registers.call.Goals as goal

pub returns-clause-bound : goal.returns-clause-bound
returns-clause-bound c =
    binds_by c.args.text.now c.args.targets.now c.args.end c.args.self.now c.note.new.self
    c.give_all.new.self c.args.holders.now.of.items c.in_ok-live.live.of.items
    c.give_all.new.holders.of.items
    c.in_ok-live.ensures c.in_ok-note.ensures.text c.in_ok-note.ensures.stays
    c.in_ok-give_all.ensures.giving c.in_ok-give_all.ensures.stays

pub returns-clause-notes : goal.returns-clause-notes
returns-clause-notes c =
    notes_by c.args.text.now c.args.site c.args.proc c.args.end c.args.self.now c.note.new.self
    c.give_all.new.self c.args.holders.now.of.items c.in_ok-live.live.of.items
    c.in_ok-live.ensures c.in_ok-note.ensures.call c.in_ok-give_all.ensures.calls
