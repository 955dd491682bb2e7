use Rattle.fetch_passes.proofs.Contract.{is_fetched, is_kept}
use Rattle.fetch_passes.proofs.pass.FetchesPass.apply.Goals as goal

pub returns-clause-shape : goal.returns-clause-shape
returns-clause-shape c = is_fetched _ _ c.in_ok-h.ensures c.requires

pub returns-clause-meaning : goal.returns-clause-meaning
returns-clause-meaning c = is_kept _ _ c.in_ok-h.ensures c.requires
