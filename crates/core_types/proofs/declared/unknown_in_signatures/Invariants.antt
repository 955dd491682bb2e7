use Rattle.std.proofs.Common.{◌≡◌, drop, map}
use Rattle.arity_check.specs.Tables.{known}
use Rattle.core_types.specs.SourceOf.{signature_of}
use Rattle.core_types.specs.Found.{unknown_in_signatures}
use Rattle.core_types.specs.Kept.{type_arity_by}
use Rattle.core_types.proofs.declared.unknown_in_signatures.Given as goal

abbrev pub invariant-loop-signature : goal.invariant-loop-signature
invariant-loop-signature l = unknown_in_signatures (type_arity_by (known l.globals) l.params)
    l.first (map signature_of (drop l.signature-index l.signatures)) ≡ unknown_in_signatures
    (type_arity_by (known l.globals) l.params) l.initial.first (map signature_of l.signatures)
