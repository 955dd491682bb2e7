use Rattle.std.specs.Ordering.{nat_cmp}
use Rattle.std.specs.BTreeMap.{get}
use Rattle.elf32.specs.Ends.{AreSegmentEnds}
use Rattle.elf32.proofs.overlap.first_overlap.Given as goal

abbrev pub invariant-loop-j : goal.invariant-loop-j
invariant-loop-j l = AreSegmentEnds l.headers l.j (get nat_cmp l.ends)
