use Rattle.std.proofs.Common.{◌≡◌, ◌⊎◌, ◌-◌, [], ℕ, List, Some, suc, length, slice_get}
use Rattle.register_alloc.proofs.assign.reach.Given as goal

abbrev pub invariant-loop-alloc : goal.invariant-loop-alloc
invariant-loop-alloc l = record {
  at : l.at ≡ l.site;
  more : (s : ℕ) (rs : List ℕ) → slice_get l.fn.saves.items s ≡ Some rs
      → slice_get l.saves.items s ≡ Some rs;
  empty : (s : ℕ) (rs : List ℕ) → slice_get l.saves.items s ≡ Some rs
      → (slice_get l.fn.saves.items s ≡ Some rs) ⊎ (rs ≡ []);
}

abbrev pub decreases-loop-alloc : goal.decreases-loop-alloc
decreases-loop-alloc l = suc l.at - length l.saves.items
