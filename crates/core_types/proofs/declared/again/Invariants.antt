use Rattle.std.proofs.Common.{◌≡◌, drop}
use Rattle.std.specs.Prelude.{false}
use Rattle.std.specs.Ordering.{nat_cmp}
use Rattle.std.specs.BTreeSet.{contains}
use Rattle.core_types.specs.Found.{first_repeated_name}
use Rattle.core_types.proofs.declared.again.Given as goal

abbrev pub invariant-loop-binder : goal.invariant-loop-binder
invariant-loop-binder l = first_repeated_name (contains nat_cmp l.seen) l.first
    (drop l.binder-index l.binders) ≡ first_repeated_name (λ n. false) l.initial.first l.binders
