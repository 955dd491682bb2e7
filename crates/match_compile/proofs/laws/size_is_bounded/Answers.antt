use Rattle.match_compile.proofs.Small.{is_small}
use Rattle.match_compile.proofs.laws.size_is_bounded.Goals as goal

pub returns : goal.returns
returns c = is_small
