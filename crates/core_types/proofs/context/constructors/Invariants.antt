use Rattle.std.proofs.Common.{◌≡◌, ℕ, drop, map}
use Rattle.std.specs.Ordering.{nat_cmp}
use Rattle.std.specs.BTreeMap.{get}
use Rattle.arity_check.specs.Tables.{or_else}
use Rattle.core_types.specs.SourceOf.{type_of}
use Rattle.core_types.specs.Building.{number_in_types}
use Rattle.core_types.proofs.context.constructors.Given as goal

abbrev pub invariant-loop-number : goal.invariant-loop-number
invariant-loop-number l = (n : ℕ) → or_else (get nat_cmp l.table n)
    (number_in_types (map type_of (drop l.number l.types)) l.number n) ≡ number_in_types
    (map type_of l.types) 0 n
