use Rattle.std.proofs.Common.{◌≡◌, take}
use Rattle.inline_theory.specs.Size.{cells_size}
use Rattle.inline_theory.specs.Expanded.{saturated_at_64_bits}
use Rattle.apply_inline.proofs.expanded.cells_size.Given as goal

abbrev pub invariant-loop-cell : goal.invariant-loop-cell
invariant-loop-cell l = l.size ≡ saturated_at_64_bits (cells_size (take l.cell-index l.cells))
