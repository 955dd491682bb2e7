use Rattle.std.proofs.Common.{◌≡◌, ◌<◌, ℕ, [], length, get_or, slice_get}
use Rattle.seq.specs.Lists.{or_empty}
use Rattle.unification.proofs.classes.Classes.new.Given as goal

abbrev pub invariant-loop-i : goal.invariant-loop-i
invariant-loop-i l = record {
  classes : length l.class.items ≡ l.i;
  keeps : length l.kept.items ≡ l.i;
  groups : length l.members.items ≡ l.i;
  alone : (j : ℕ) → j < l.i → get_or l.class.items j 0 ≡ j;
  kept : (j : ℕ) → j < l.i → get_or l.kept.items j 0 ≡ j;
  none : (j : ℕ) → or_empty (slice_get l.members.items j) ≡ [];
}
