-- There are no more words than there may be.
use Rattle.std.proofs.Common.{◌≤◌, ◌^◌}
use Rattle.image_trace.proofs.profile.words_to_end.Given as goal

abbrev pub invariant-loop-f : goal.invariant-loop-f
invariant-loop-f l = l.end ≤ 2 ^ 33
