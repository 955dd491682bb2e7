use Rattle.match_compile.proofs.ReadableSources.{text_readable}
use Rattle.match_compile.proofs.laws.read_is_readable.Goals as goal

pub returns : goal.returns
returns c = text_readable
