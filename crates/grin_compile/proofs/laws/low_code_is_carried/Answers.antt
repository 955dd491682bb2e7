use Rattle.grin_compile.proofs.Layered.{low_code_is_carried}
use Rattle.grin_compile.proofs.laws.low_code_is_carried.Goals as goal

pub returns : goal.returns
returns c = low_code_is_carried
