use Rattle.std.proofs.Common.{◌≡◌, length, map}
use Rattle.unification.specs.Pieces.{pieces}
use Rattle.unification.specs.Trees.{Tree}
use Rattle.core_types.specs.Sides.{type_of}
use Rattle.core_types.proofs.Sided.{Reads}
use Rattle.core_types.proofs.sides.read_row.Given as goal

abbrev pub invariant-reading : goal.invariant-reading
invariant-reading l = (t : Tree) → l.initial.row.items ≡ pieces t
    → Reads l.row.items (map type_of l.read.items) t

abbrev pub decreases-reading : goal.decreases-reading
decreases-reading l = length l.row.items
