use Rattle.std.proofs.Common.{◌≡◌, ◌<◌, ℕ, length, get_or}
use Rattle.low_translate.specs.Groups.{ParentsAreSmaller, IsConstantOnGroups}
use Rattle.low_translate.proofs.groups.Groups.first.Given as goal

abbrev pub invariant-loop-at : goal.invariant-loop-at
invariant-loop-at l = record {
  many : length l.self.parents.items ≡ length l.initial.self.parents.items;
  known : l.at < length l.initial.self.parents.items;
  ordered : ParentsAreSmaller l.self.parents.items;
  joined : (c : ℕ → ℕ) → IsConstantOnGroups c l.self.parents.items → c l.at ≡ c l.fn.x;
  older : (c : ℕ → ℕ) → IsConstantOnGroups c l.self.parents.items
      → IsConstantOnGroups c l.initial.self.parents.items;
  firsts : (y : ℕ) → get_or l.initial.self.parents.items y 0 ≡ y
      → get_or l.self.parents.items y 0 ≡ y;
}

abbrev pub decreases-loop-at : goal.decreases-loop-at
decreases-loop-at l = l.at
