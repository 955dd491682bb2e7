use Rattle.std.proofs.Common.{◌≡◌, drop, take}
use Rattle.pass_narrow.specs.Picked.{stay}
use Rattle.pass_narrow.proofs.picked.stay.Given as goal

abbrev pub invariant-xs : goal.invariant-xs
invariant-xs l = l.made ≡ stay (drop l.from l.uses) (take l.x-index l.xs)
