use Rattle.std.proofs.Common.{◌≡◌, ◌+◌, drop}
use Rattle.match_compile.specs.TreeOf.{branch_for}
use Rattle.match_compile.proofs.tree.branch_for.Given as goal

abbrev pub invariant-branches : goal.invariant-branches
invariant-branches l = branch_for l.head (drop l.k l.branches) + l.k ≡ branch_for l.head l.branches
