use Rattle.std.proofs.Common.{◌≡◌, ℕ, drop, map}
use Rattle.std.specs.Ordering.{nat_cmp}
use Rattle.std.specs.BTreeMap.{get}
use Rattle.arity_check.specs.Tables.{or_else}
use Rattle.core_types.specs.SourceOf.{constructor_of}
use Rattle.core_types.specs.Building.{constructor_number}
use Rattle.core_types.proofs.context.enter_constructors.Given as goal

abbrev pub invariant-loop-place : goal.invariant-loop-place
invariant-loop-place l = (n : ℕ) → or_else (get nat_cmp l.table n)
    (constructor_number l.number (map constructor_of (drop l.place l.constructors)) l.place n) ≡
    or_else (get nat_cmp l.initial.table n)
    (constructor_number l.number (map constructor_of l.constructors) 0 n)
