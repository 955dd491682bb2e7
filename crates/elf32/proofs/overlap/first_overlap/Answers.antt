use Rattle.std.proofs.Common.{arith}
use Rattle.elf32.proofs.Overlaps.{none}
use Rattle.elf32.proofs.overlap.first_overlap.Goals as goal

pub returns : goal.returns
returns c = none _ _ _ c.loop-j.invariant (omega arith)
