use Rattle.std.proofs.Common.{ℕ, ◌<◌}
use Rattle.elf32.specs.Rules.{SegmentIsOutOfBounds, header}
use Rattle.elf32.proofs.reader.first_outside.Given as goal

abbrev pub invariant-loop-i : goal.invariant-loop-i
invariant-loop-i l = (k : ℕ) → k < l.i → SegmentIsOutOfBounds l.len (header l.headers k) → ⊥
