use Rattle.std.proofs.Common.{◌≡◌, drop}
use Rattle.rv32_machine.specs.Memory.{place_from}
use Rattle.rv32_machine.proofs.memory.place.Given as goal

abbrev pub invariant-loop-number : goal.invariant-loop-number
invariant-loop-number l = place_from l.right l.address 0 l.regions ≡ place_from l.right l.address
    l.number (drop l.number l.regions)
