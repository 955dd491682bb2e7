use Rattle.std.proofs.Common.{◌≡◌, ◌++◌, ◌-◌, length, drop}
use Rattle.lambda_lift.specs.Gathered.{scope_of_binders}
use Rattle.lambda_lift.proofs.binders.add_bound_names.Given as goal

abbrev pub invariant-loop-i : goal.invariant-loop-i
invariant-loop-i l = l.inside ≡ scope_of_binders (drop (length l.binders - l.i) l.binders)
    ++ l.fn.inside
