use Rattle.std.proofs.Common.{◌≡◌, ◌≤◌, drop, length}
use Rattle.match_compile.specs.Translated.{taken}
use Rattle.match_compile.proofs.emission.taken.Given as goal

abbrev pub invariant-bound : goal.invariant-bound
invariant-bound l = record {
  within : l.at ≤ length l.bound;
  scope : l.scope ≡ taken l.words l.places (drop l.at l.bound);
}

abbrev pub decreases-bound : goal.decreases-bound
decreases-bound l = l.at
