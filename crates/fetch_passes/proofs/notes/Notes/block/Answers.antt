use Rattle.std.proofs.Common.{refl}
use Rattle.fetch_passes.proofs.Places.{block_spans}
use Rattle.fetch_passes.proofs.notes.Notes.block.Goals as goal

pub returns-clause-spans : goal.returns-clause-spans
returns-clause-spans c b h = block_spans c.args.self.now c.args.here c.in_ok-next.next _ b
    c.in_ok-place.ensures c.in_ok-next.ensures refl h
