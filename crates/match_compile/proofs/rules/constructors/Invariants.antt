use Rattle.std.proofs.Common.{◌≡◌, drop}
use Rattle.std.specs.Ordering.{nat_cmp}
use Rattle.std.specs.BTreeMap.{get}
use Rattle.match_compile.specs.Refusal.{least_refusal}
use Rattle.match_compile.specs.Faults.{constructors_faults}
use Rattle.match_compile.proofs.rules.constructors.Given as goal

abbrev pub invariant-loop-con : goal.invariant-loop-con
invariant-loop-con l = least_refusal l.first
    (constructors_faults (λ x. get nat_cmp l.fields x) (drop l.con-index l.constructors)) ≡
    least_refusal l.initial.first (constructors_faults (λ x. get nat_cmp l.fields x) l.constructors)
