use Rattle.std.proofs.Common.{◌≡◌, ℕ, length, take}
use Rattle.grin_syntax.specs.Formed.{AllOf}
use Rattle.low_translate.specs.Groups.{ParentsAreSmaller, IsConstantOnGroups}
use Rattle.low_translate.proofs.results.join_all.Given as goal

abbrev pub invariant-loop-call : goal.invariant-loop-call
invariant-loop-call l = record {
  many : length l.groups.parents.items ≡ length l.initial.groups.parents.items;
  ordered : ParentsAreSmaller l.groups.parents.items;
  older : (c : ℕ → ℕ) → IsConstantOnGroups c l.groups.parents.items
      → IsConstantOnGroups c l.initial.groups.parents.items;
  joined : (c : ℕ → ℕ) → IsConstantOnGroups c l.groups.parents.items
      → AllOf (λ h. c h ≡ c l.f) (take l.call-index l.calls);
}
