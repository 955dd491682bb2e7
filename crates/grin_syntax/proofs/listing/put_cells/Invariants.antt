use Rattle.std.proofs.Common.{◌≡◌, ◌++◌, take}
use Rattle.std.specs.List.{flat_map}
use Rattle.std.specs.Ordering.{nat_cmp}
use Rattle.std.specs.BTreeMap as tree
use Rattle.grin_syntax.specs.Tree.{program_of}
use Rattle.grin_syntax.specs.Listing.{cell_line}
use Rattle.grin_syntax.proofs.listing.put_cells.Given as goal

abbrev pub invariant-loop-cell : goal.invariant-loop-cell
invariant-loop-cell l = l.text ≡ l.initial.text ++ flat_map
    (cell_line (program_of l.g) (tree.get nat_cmp l.ranks) l.margin) (take l.cell-index l.cells)
