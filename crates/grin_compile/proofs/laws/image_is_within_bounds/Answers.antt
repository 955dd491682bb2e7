use Rattle.grin_compile.proofs.Bounds.{within_bounds}
use Rattle.grin_compile.proofs.laws.image_is_within_bounds.Goals as goal

pub returns : goal.returns
returns c = within_bounds
