use Rattle.std.proofs.Common.{◌≡◌, drop}
use Rattle.match_compile.specs.Translated.{bound_at}
use Rattle.match_compile.proofs.stays.bound_at.Given as goal

abbrev pub invariant-loop-binder : goal.invariant-loop-binder
invariant-loop-binder l = bound_at l.place (drop l.binder-index l.bound) ≡ bound_at l.place l.bound
