use Rattle.grin_driver.proofs.TypedRuns as runs
use Rattle.grin_driver.proofs.laws.typed_never_exits.Goals as goal

pub returns : goal.returns
returns c = runs.typed_never_exits c.canonical_text_keeps_meaning.ensures
