use Rattle.std.proofs.Common.{◌≡◌}
use Rattle.grin_rewrite.specs.ByWords.{cells_by}
use Rattle.grin_rewrite.specs.Table.{facts_of}
use Rattle.copy_prop.specs.Resolved.{as_word}
use Rattle.copy_prop.proofs.resolve.all_cells.Given as goal

abbrev pub invariant-cells : goal.invariant-cells
invariant-cells l = l.made ≡ cells_by (as_word (facts_of l.standing)) l.yielded
