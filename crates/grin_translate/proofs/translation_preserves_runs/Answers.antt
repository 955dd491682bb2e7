use Rattle.grin_translate.proofs.Printing as proof
use Rattle.grin_translate.proofs.translation_preserves_runs.Goals as goal

pub returns : goal.returns
returns c = proof.translation_does_as
