use Rattle.std.proofs.Common.{◌++◌, ap, ◌∙◌}
use Rattle.fetch_passes.specs.Notes.{only, cells_used}
use Rattle.fetch_passes.proofs.scan.Scan.store.Goals as goal

pub returns-clause-sizes : goal.returns-clause-sizes
returns-clause-sizes c = c.in_ok-finish.ensures.sizes
    (record { used = c.args.self.now.used.items; sizes = c.args.self.now.sizes.items })
    (only (cells_used c.args.cells.now)) c.in_ok-at.ensures.place.0 c.in_ok-at.ensures.place.1
    (c.in_ok-cells.ensures.used ∙ ap (λ l. l ++ cells_used c.args.cells.now)
    c.in_ok-at.ensures.used) (c.in_ok-cells.ensures.sizes ∙ c.in_ok-at.ensures.sizes)
