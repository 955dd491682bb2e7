use Rattle.std.proofs.Common.{◌≡◌, drop}
use Rattle.std.specs.Prelude.{false}
use Rattle.std.specs.Ordering.{nat_cmp}
use Rattle.std.specs.BTreeSet.{contains}
use Rattle.match_compile.specs.Refusal.{least_refusal}
use Rattle.match_compile.specs.Faults.{names_faults}
use Rattle.match_compile.proofs.rules.names.Given as goal

abbrev pub invariant-loop-binder : goal.invariant-loop-binder
invariant-loop-binder l = least_refusal l.first
    (names_faults l.texts (contains nat_cmp l.seen) (drop l.binder-index l.binders)) ≡ least_refusal
    l.initial.first (names_faults l.texts (λ x. false) l.binders)
