use Rattle.std.proofs.Common.{◌≡◌, ◌≤◌, ◌<◌, ℕ, List, length, get_or}
use Rattle.grin_syntax.specs.declared.program.Proc.{Proc}
use Rattle.grin_syntax.specs.Tree.{code_of}
use Rattle.low_translate.specs.Groups.{ParentsAreSmaller, IsConstantOnGroups}
use Rattle.low_translate.specs.Lowered.{CodeGives}
use Rattle.low_translate.proofs.results.results.Given as goal

abbrev pub invariant-loop-f : goal.invariant-loop-f
invariant-loop-f l = record {
  many : length l.groups.parents.items ≡ length l.procs;
  ordered : ParentsAreSmaller l.groups.parents.items;
  each : length l.widths.items ≡ l.f;
  few : (x : ℕ) → get_or l.widths.items x 0 ≤ 13;
  gives : (rs : List ℕ) → IsConstantOnGroups (λ x. get_or rs x 0) l.groups.parents.items
      → (x : ℕ) (q : Proc) → x < l.f → q ≡ get_or l.procs x q
      → get_or l.widths.items x 0 ≤ get_or rs x 0
      → CodeGives l.node rs (get_or rs x 0) (code_of q.body);
}
