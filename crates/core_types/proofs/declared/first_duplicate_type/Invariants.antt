use Rattle.std.proofs.Common.{◌≡◌, drop, map}
use Rattle.std.specs.Prelude.{false, None}
use Rattle.std.specs.Ordering.{nat_cmp}
use Rattle.std.specs.BTreeSet.{contains}
use Rattle.arity_check.specs.Tables.{known}
use Rattle.core_types.specs.SourceOf.{type_of}
use Rattle.core_types.specs.Found.{first_duplicate_type}
use Rattle.core_types.proofs.declared.first_duplicate_type.Given as goal

abbrev pub invariant-loop-declared : goal.invariant-loop-declared
invariant-loop-declared l = first_duplicate_type (known l.globals) (contains nat_cmp l.seen) l.first
    (map type_of (drop l.declared-index l.types)) ≡ first_duplicate_type (known l.globals)
    (λ n. false) None (map type_of l.types)
