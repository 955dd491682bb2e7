use Rattle.std.proofs.Common.{◌≡◌, drop, map, None}
use Rattle.std.specs.Ordering.{nat_cmp}
use Rattle.std.specs.BTreeMap.{get}
use Rattle.match_compile.specs.SourceOf.{equation_of}
use Rattle.match_compile.specs.Refusal.{least_refusal}
use Rattle.match_compile.specs.Faults.{orders_faults}
use Rattle.match_compile.proofs.rules.orders.Given as goal

abbrev pub invariant-loop-equation : goal.invariant-loop-equation
invariant-loop-equation l = least_refusal l.first
    (orders_faults (λ x. get nat_cmp l.arities x) l.last
    (map equation_of (drop l.equation-index l.equations))) ≡ least_refusal l.initial.first
    (orders_faults (λ x. None) None (map equation_of l.equations))
