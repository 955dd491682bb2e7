use Rattle.std.proofs.Common.{◌≡◌, ℕ, drop, map}
use Rattle.std.specs.Ordering.{nat_cmp}
use Rattle.std.specs.BTreeMap.{get}
use Rattle.arity_check.specs.Tables.{or_else}
use Rattle.core_types.specs.SourceOf.{type_of}
use Rattle.core_types.specs.Rules.{type_arity}
use Rattle.core_types.proofs.declared.TypeArities.new.Given as goal

abbrev pub invariant-loop-declared : goal.invariant-loop-declared
invariant-loop-declared l = (n : ℕ) → or_else (get nat_cmp l.params n)
    (type_arity (map type_of (drop l.declared-index l.types)) n) ≡ type_arity (map type_of l.types)
    n
