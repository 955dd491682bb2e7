use Rattle.std.proofs.Common.{◌≡◌, drop}
use Rattle.match_compile.specs.Translated.{branches_bind}
use Rattle.match_compile.specs.TreeOf.{branches_of}
use Rattle.match_compile.proofs.stays.+all.Given as goal

abbrev pub invariant-branches_bind-loop-branch : goal.invariant-branches_bind-loop-branch
invariant-branches_bind-loop-branch l = branches_bind l.place l.name
    (branches_of (drop l.branch-index l.branches)) ≡ branches_bind l.place l.name
    (branches_of l.branches)
