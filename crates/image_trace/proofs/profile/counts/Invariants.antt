-- The counts of the procedures that are left complete the list.
use Rattle.std.proofs.Common.{◌≡◌, ◌++◌, drop}
use Rattle.image_trace.specs.Places.{times_noted}
use Rattle.image_trace.specs.Profile.{counts_of}
use Rattle.image_trace.proofs.profile.counts.Given as goal

abbrev pub invariant-loop-f : goal.invariant-loop-f
invariant-loop-f l =
    l.counts.items
    ++ counts_of (times_noted l.places) (drop l.f l.begins) (drop l.f l.words)
    ≡ counts_of (times_noted l.places) l.begins l.words
