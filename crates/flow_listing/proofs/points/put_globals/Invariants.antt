use Rattle.std.proofs.Common.{◌≡◌, ◌++◌, take}
use Rattle.std.specs.List.{flat_map}
use Rattle.std.specs.Ordering.{nat_cmp}
use Rattle.std.specs.BTreeMap as tree
use Rattle.grin_syntax.specs.Tree.{program_of}
use Rattle.points_to.specs.Found.{found}
use Rattle.flow_listing.specs.Text.{global_line}
use Rattle.flow_listing.proofs.points.put_globals.Given as goal

abbrev pub invariant-loop-cell : goal.invariant-loop-cell
invariant-loop-cell l = l.text ≡ l.initial.text ++ flat_map
    (global_line (program_of l.g) (tree.get nat_cmp l.names) (found l.flow))
    (take l.cell-index l.cell-items)
