-- The sum of the bytes that are done, and of those that are left, is that of all.
use Rattle.std.proofs.Common.{◌≡◌, ◌≤◌, ◌+◌, ◌*◌, drop}
use Rattle.grin_driver.proofs.generate.total.Given as goal
use Rattle.seq.specs.Lists.{sum_of}

abbrev pub invariant-loop-byte : goal.invariant-loop-byte
invariant-loop-byte l = (l.sum + sum_of (drop l.byte-index l.bytes) ≡ sum_of l.bytes)
    × (l.sum ≤ 255 * l.byte-index)
