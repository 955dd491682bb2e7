use Rattle.natural_semantics.proofs.CoreSays.{parts_agree}
use Rattle.natural_semantics.proofs.parts_of_printing_agree.Goals as goal

pub returns : goal.returns
returns c = parts_agree
