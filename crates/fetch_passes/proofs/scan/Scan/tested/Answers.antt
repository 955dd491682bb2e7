use Rattle.std.proofs.Common.{◌++◌, ap, ◌∙◌}
use Rattle.fetch_passes.specs.Notes.{only, val_used}
use Rattle.fetch_passes.proofs.scan.Scan.tested.Goals as goal

pub returns-clause-sizes : goal.returns-clause-sizes
returns-clause-sizes c = c.in_ok-finish.ensures.sizes
    (record { used = c.args.self.now.used.items; sizes = c.args.self.now.sizes.items })
    (only (val_used c.args.v.now)) c.in_ok-at.ensures.place.0 c.in_ok-at.ensures.place.1
    (c.in_ok-val.ensures.used ∙ ap (λ l. l ++ val_used c.args.v.now) c.in_ok-at.ensures.used)
    (c.in_ok-val.ensures.sizes ∙ c.in_ok-at.ensures.sizes)
