use Rattle.std.proofs.Common.{◌≡◌, drop}
use Rattle.match_compile.specs.Trees.{branches_fail}
use Rattle.match_compile.specs.TreeOf.{branches_of}
use Rattle.match_compile.proofs.tree.+fails.Given as goal

abbrev pub invariant-branches_fail-loop-branch : goal.invariant-branches_fail-loop-branch
invariant-branches_fail-loop-branch l = branches_fail (branches_of (drop l.branch-index l.branches))
    ≡ branches_fail (branches_of l.branches)
