use Rattle.std.proofs.Common.{◌≡◌, take}
use Rattle.points_to.proofs.origin.copy_params.Given as goal

abbrev pub invariant-loop-xs : goal.invariant-loop-xs
invariant-loop-xs l = l.made ≡ take l.xs-index l.params
