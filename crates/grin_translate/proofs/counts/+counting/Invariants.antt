use Rattle.std.proofs.Common.{◌≡◌, ◌+◌, map, drop}
use Rattle.arity_check.specs.Program.{branch, branches_of}
use Rattle.grin_translate.specs.Translation.{branch_binders}
use Rattle.grin_translate.proofs.counts.+counting.Given as goal

abbrev pub invariant-bound_in_all-loop-each : goal.invariant-bound_in_all-loop-each
invariant-bound_in_all-loop-each l = l.count + branch_binders
    (branches_of (map branch (drop l.each-index l.branches))) ≡ l.first + branch_binders
    (branches_of (map branch l.branches))
