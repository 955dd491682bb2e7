use Rattle.std.proofs.Common.{◌≡◌, ◌<◌, ℕ, length, Some, slice_get}
use Rattle.unification.specs.declared.walk.VisitMark.TheVariants.{Unseen}
use Rattle.unification.proofs.walk.Walk.new.Given as goal

abbrev pub invariant-loop-i : goal.invariant-loop-i
invariant-loop-i l = record {
  marks : length l.marks.items ≡ l.i;
  unseen : (r : ℕ) → r < l.i → slice_get l.marks.items r ≡ Some Unseen;
}
