use Rattle.low_translate.proofs.Emitting.{adds_one}
use Rattle.low_translate.proofs.emit.emit.Goals as goal

pub returns : goal.returns
returns c = adds_one _ _ _ c.in_ok-push.ensures.ok
