use Rattle.std.proofs.Common.{◌≡◌, map}
use Rattle.std.specs.List.{range_with_len}
use Rattle.rv32_layout.specs.Spots.{label_address}
use Rattle.rv32_layout.proofs.labels.addresses.Given as goal

abbrev pub invariant-loop-label : goal.invariant-loop-label
invariant-loop-label l = l.addresses.items ≡ map (label_address l.spots) (range_with_len 0 l.label)
