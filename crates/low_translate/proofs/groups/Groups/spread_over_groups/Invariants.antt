use Rattle.std.proofs.Common.{◌≡◌, ◌≤◌, ◌<◌, ℕ, length, get_or}
use Rattle.low_translate.proofs.groups.Groups.spread_over_groups.Given as goal

abbrev pub invariant-loop-x : goal.invariant-loop-x
invariant-loop-x l = record {
  many : length l.values.items ≡ length l.initial.values.items;
  more : (y : ℕ) → get_or l.initial.values.items y 0 ≤ get_or l.values.items y 0;
  same : (y : ℕ) → y < l.x → get_or l.values.items (get_or l.self.parents.items y 0) 0 ≡ get_or
      l.values.items y 0;
  few : (most : ℕ) → ((y : ℕ) → get_or l.initial.values.items y 0 ≤ most) → (y : ℕ)
      → get_or l.values.items y 0 ≤ most;
}
