use Rattle.std.proofs.Common.{◌≡◌, drop, map}
use Rattle.std.specs.Prelude.{false, None}
use Rattle.std.specs.Ordering.{nat_cmp}
use Rattle.std.specs.BTreeSet.{contains}
use Rattle.arity_check.specs.Tables.{known}
use Rattle.core_types.specs.SourceOf.{signature_of}
use Rattle.core_types.specs.Found.{first_bad_signature}
use Rattle.core_types.proofs.declared.first_bad_signature.Given as goal

abbrev pub invariant-loop-signature : goal.invariant-loop-signature
invariant-loop-signature l = first_bad_signature (known l.globals) (contains nat_cmp l.seen) l.first
    (map signature_of (drop l.signature-index l.signatures)) ≡ first_bad_signature (known l.globals)
    (λ n. false) None (map signature_of l.signatures)
