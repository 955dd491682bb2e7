use Rattle.std.proofs.Common.{◌≡◌, ◌++◌, take}
use Rattle.std.specs.List.{flat_map}
use Rattle.grin_syntax.specs.Tree.{program_of}
use Rattle.grin_syntax.specs.Listing.{global_line}
use Rattle.grin_syntax.proofs.listing.put_globals.Given as goal

abbrev pub invariant-loop-cell : goal.invariant-loop-cell
invariant-loop-cell l = l.text ≡ l.initial.text ++ flat_map (global_line (program_of l.g))
    (take l.cell-index l.cell-items)
