use Rattle.grin_compile.proofs.Layered.{code_tells_cells_bound}
use Rattle.grin_compile.proofs.laws.code_tells_cells_bound.Goals as goal

pub returns : goal.returns
returns c = code_tells_cells_bound
