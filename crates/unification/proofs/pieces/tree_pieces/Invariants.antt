use Rattle.std.proofs.Common.{◌≡◌, ◌<◌, ◌-◌, ◌++◌, ℕ, length}
use Rattle.seq.specs.Lists.{In}
use Rattle.unification.specs.Pieces.{pieces, pieces_all}
use Rattle.unification.specs.Shown.{ShowsTrees}
use Rattle.unification.specs.Trees.{Tree, trees}
use Rattle.unification.proofs.pieces.tree_pieces.Given as goal

abbrev pub invariant-writing : goal.invariant-writing
invariant-writing l = record {
  below : (x : ℕ) → In x l.left.items → x < length l.terms;
  written : (v : ℕ → Tree) → ShowsTrees l.terms l.classes v
      → l.row.items ++ pieces_all (trees v l.left.items) ≡ pieces (v l.at);
}

abbrev pub decreases-writing : goal.decreases-writing
decreases-writing l = l.room - length l.row.items
