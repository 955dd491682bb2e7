-- What is left completes the count.
use Rattle.std.proofs.Common.{◌≡◌, ◌+◌, ◌≤◌, drop}
use Rattle.seq.specs.Lists.{times}
use Rattle.image_trace.proofs.places.times.Given as goal

abbrev pub invariant-loop-other : goal.invariant-loop-other
invariant-loop-other l = record {
  kept : l.count + times l.number (drop l.other-index l.list) ≡ times l.number l.list;
  few : l.count ≤ l.other-index;
}
