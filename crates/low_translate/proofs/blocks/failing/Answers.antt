use Rattle.std.proofs.Common.{refl}
use Rattle.low_translate.proofs.Operations.{block_fails}
use Rattle.low_translate.proofs.blocks.failing.Goals as goal

pub returns : goal.returns
returns c = block_fails _ c.new.ensures refl
