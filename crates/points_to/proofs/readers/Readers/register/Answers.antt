use Rattle.points_to.specs.Waiting.{numbers_at}
use Rattle.points_to.proofs.Waiting.{registers_at}
use Rattle.points_to.proofs.readers.Readers.register.Goals as goal

pub returns : goal.returns
returns c = registers_at (numbers_at c.args.self.now.by_slot.items) c.grow.new.rows.items
    c.args.place c.place_slot-at.result c.index_mut.result.now c.put.new.self c.args.n
    c.place_slot-at.ensures c.in_ok-grow.ensures.same c.in_ok-grow.ensures.there
    c.index_mut.ensures.value c.in_ok-put.ensures
