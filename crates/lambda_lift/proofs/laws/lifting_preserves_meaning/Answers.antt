use Rattle.lambda_lift.proofs.Fresh.{none_lifted}
use Rattle.lambda_lift.proofs.Texts.{text_readable}
use Rattle.lambda_lift.proofs.Kept.{trees_keep}
use Rattle.lambda_lift.proofs.laws.lifting_preserves_meaning.Goals as goal

pub returns : goal.returns
returns c' = λ text c p t whole ok nf. trees_keep c p (text_readable text c whole.read t)
    (none_lifted text c t whole) ok nf
