use Rattle.std.proofs.Common.{◌≡◌, [], take}
use Rattle.std.specs.List.{fold}
use Rattle.flow_system.specs.Readers.{with_set}
use Rattle.flow_system.proofs.sets.numbered.Given as goal

abbrev pub invariant-loop-place : goal.invariant-loop-place
invariant-loop-place l = l.sets ≡ fold with_set [] (take l.place-index l.places)
