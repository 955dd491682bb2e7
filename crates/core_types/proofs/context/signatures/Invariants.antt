use Rattle.std.proofs.Common.{◌≡◌, ℕ, drop, map}
use Rattle.std.specs.Ordering.{nat_cmp}
use Rattle.std.specs.BTreeMap.{get}
use Rattle.arity_check.specs.Tables.{or_else}
use Rattle.core_types.specs.SourceOf.{signature_of}
use Rattle.core_types.specs.Building.{signature_number}
use Rattle.core_types.proofs.context.signatures.Given as goal

abbrev pub invariant-loop-number : goal.invariant-loop-number
invariant-loop-number l = (n : ℕ) → or_else (get nat_cmp l.table n)
    (signature_number (map signature_of (drop l.number l.signatures)) l.number n) ≡ signature_number
    (map signature_of l.signatures) 0 n
