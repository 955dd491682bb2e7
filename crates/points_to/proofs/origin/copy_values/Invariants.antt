use Rattle.std.proofs.Common.{◌≡◌, map, take}
use Rattle.flow_system.specs.Shown.{inclusion_of}
use Rattle.points_to.specs.Stored.{value_in}
use Rattle.points_to.proofs.origin.copy_values.Given as goal

abbrev pub invariant-loop-inclusion : goal.invariant-loop-inclusion
invariant-loop-inclusion l = l.made ≡ map (λ i. value_in (inclusion_of i))
    (take l.inclusion-index l.inclusions)
