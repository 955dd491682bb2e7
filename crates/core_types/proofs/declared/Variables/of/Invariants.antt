use Rattle.std.proofs.Common.{◌≡◌, drop}
use Rattle.std.specs.Prelude.{false}
use Rattle.std.specs.Ordering.{nat_cmp}
use Rattle.std.specs.BTreeSet.{contains}
use Rattle.core_types.specs.Found.{with_all_seen}
use Rattle.core_types.proofs.declared.Variables.of.Given as goal

abbrev pub invariant-loop-param : goal.invariant-loop-param
invariant-loop-param l = with_all_seen (contains nat_cmp l.names) (drop l.param-index l.params) ≡
    with_all_seen (λ n. false) l.params
