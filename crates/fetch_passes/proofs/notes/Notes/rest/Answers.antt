use Rattle.std.proofs.Common.{refl}
use Rattle.fetch_passes.proofs.Places.{rest_follows}
use Rattle.fetch_passes.proofs.notes.Notes.rest.Goals as goal

pub returns-clause-follows : goal.returns-clause-follows
returns-clause-follows c = rest_follows c.args.self.now c.args.span _ c.in_ok-place.ensures refl
