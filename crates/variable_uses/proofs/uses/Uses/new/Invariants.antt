use Rattle.std.proofs.Common.{◌≡◌, ℕ, ◌<◌, length, Some, slice_get}
use Rattle.variable_uses.specs.Uses.{used_at}
use Rattle.variable_uses.proofs.uses.Uses.new.Given as goal

abbrev pub invariant-loop-at : goal.invariant-loop-at
invariant-loop-at l = record {
  count : length l.uses.items ≡ l.at;
  each : (p : ℕ) → p < l.at → slice_get l.uses.items p ≡ Some
      (record { variable = used_at l.used p; at = p });
}
