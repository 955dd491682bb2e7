use Rattle.grin_meaning.proofs.Kept.{keeps_again}
use Rattle.grin_meaning.proofs.passes.preservation_composes.Goals as goal

pub returns : goal.returns
returns c = keeps_again
