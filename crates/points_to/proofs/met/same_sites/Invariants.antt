use Rattle.std.proofs.Common.{◌≡◌, map, take}
use Rattle.points_to.proofs.met.same_sites.Given as goal

abbrev pub invariant-loop-i : goal.invariant-loop-i
invariant-loop-i l = map (λ s. s.0) (take l.i l.a) ≡ map (λ s. s.0) (take l.i l.b)
