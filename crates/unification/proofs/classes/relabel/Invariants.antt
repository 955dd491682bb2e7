use Rattle.std.proofs.Common.{◌≡◌, ℕ, length, get_or, take}
use Rattle.seq.specs.Lists.{In}
use Rattle.unification.proofs.classes.relabel.Given as goal

abbrev pub invariant-loop-i : goal.invariant-loop-i
invariant-loop-i l = record {
  length : length l.class.items ≡ length l.initial.class.items;
  moved : (i : ℕ) → In i (take l.i-index l.moved) → get_or l.class.items i 0 ≡ l.to;
  others : (i : ℕ) → (In i l.moved → ⊥) → get_or l.class.items i 0 ≡ get_or l.initial.class.items i
      0;
}
