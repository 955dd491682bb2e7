-- The words that are left complete the sum.
use Rattle.std.proofs.Common.{◌≡◌, ◌+◌, ◌*◌, ◌≤◌}
use Rattle.image_trace.specs.Places.{times_noted}
use Rattle.image_trace.specs.Profile.{done_within}
use Rattle.image_trace.proofs.places.Places.done_within.Given as goal

abbrev pub invariant-loop-left : goal.invariant-loop-left
invariant-loop-left l = record {
  kept : l.sum + done_within (times_noted l.self) l.left l.at
      ≡ done_within (times_noted l.self) l.words l.begin;
  there : l.at + 4 * l.left ≡ l.begin + 4 * l.words;
  few : l.sum + 1000000000 * l.left ≤ 1000000000 * l.words;
}

abbrev pub decreases-loop-left : goal.decreases-loop-left
decreases-loop-left l = l.left
