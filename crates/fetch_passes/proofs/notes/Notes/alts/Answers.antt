use Rattle.fetch_passes.proofs.Places.{alts_here}
use Rattle.fetch_passes.proofs.notes.Notes.alts.Goals as goal

pub returns-clause-alts : goal.returns-clause-alts
returns-clause-alts c v as' h = alts_here c.args.self.now c.args.here c.in_ok-value.value
    c.in_ok-first.first v as' c.in_ok-value.ensures c.in_ok-first.ensures h
