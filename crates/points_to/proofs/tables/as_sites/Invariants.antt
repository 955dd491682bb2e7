use Rattle.std.proofs.Common.{◌≡◌, ◌++◌, map, take}
use Rattle.points_to.specs.Wanted.{site_id}
use Rattle.points_to.proofs.tables.as_sites.Given as goal

abbrev pub invariant-loop-n : goal.invariant-loop-n
invariant-loop-n l = l.out ≡ l.initial.out ++ map site_id (take l.n-index l.numbers)
