use Rattle.std.proofs.Common.{◌≡◌, take}
use Rattle.std.specs.List.{flat_map}
use Rattle.flow_system.specs.Written.{shown}
use Rattle.flow_system.specs.Readers.{named}
use Rattle.flow_system.proofs.named.all_named_sets.Given as goal

abbrev pub invariant-loop-inclusion : goal.invariant-loop-inclusion
invariant-loop-inclusion l = l.places ≡ flat_map named (shown (take l.inclusion-index l.inclusions))
