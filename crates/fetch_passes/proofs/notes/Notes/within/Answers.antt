use Rattle.std.proofs.Common.{subst}
use Rattle.fetch_passes.specs.Notes.{Answers}
use Rattle.fetch_passes.proofs.Places.{answered}
use Rattle.fetch_passes.proofs.notes.Notes.within.Goals as goal

pub returns : goal.returns
returns c = subst (λ n. Answers n c.args.x.0 c.args.from c.args.to c.within.result) c.self.view_is
    (answered (record { used = c.self.inside.used.items; sizes = c.self.inside.sizes.items })
    c.args.x.0 c.args.from c.args.to c.within.result
    (c.within.ensures c.self.inside.used.items c.self.invariant))
