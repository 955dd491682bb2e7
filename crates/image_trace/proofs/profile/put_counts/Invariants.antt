-- The lines of the procedures that are left complete the text.
use Rattle.std.proofs.Common.{◌≡◌, ◌++◌, drop}
use Rattle.image_trace.specs.Profile.{count_lines}
use Rattle.image_trace.proofs.profile.put_counts.Given as goal

abbrev pub invariant-loop-f : goal.invariant-loop-f
invariant-loop-f l =
    l.text ++ count_lines (drop l.f l.names) (drop l.f l.counts)
    ≡ l.initial.text ++ count_lines l.names l.counts
