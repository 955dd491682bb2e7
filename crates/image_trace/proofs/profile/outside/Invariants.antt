-- What is left is taken from the rest.
use Rattle.std.proofs.Common.{◌≡◌, drop}
use Rattle.image_trace.specs.Profile.{outside}
use Rattle.image_trace.proofs.profile.outside.Given as goal

abbrev pub invariant-loop-count : goal.invariant-loop-count
invariant-loop-count l =
    outside l.rest (drop l.count-index l.counts) ≡ outside l.all l.counts
