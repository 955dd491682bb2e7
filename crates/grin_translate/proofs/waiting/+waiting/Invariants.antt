use Rattle.std.proofs.Common.{◌≡◌, map, drop}
use Rattle.arity_check.specs.Program.{branch, branches_of}
use Rattle.grin_translate.specs.Tags.{delays_in_branches}
use Rattle.grin_translate.proofs.waiting.+waiting.Given as goal

abbrev pub invariant-branches_have-loop-each : goal.invariant-branches_have-loop-each
invariant-branches_have-loop-each l = delays_in_branches l.delay
    (branches_of (map branch (drop l.each-index l.branches))) ≡ delays_in_branches l.delay
    (branches_of (map branch l.branches))
