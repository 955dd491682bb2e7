use Rattle.std.proofs.Common.{map}
use Rattle.arity_check.specs.Tables.{known}
use Rattle.core_types.specs.SourceOf.{type_of, signature_of}
use Rattle.core_types.proofs.Walks.{both_walked}
use Rattle.core_types.proofs.declared.first_unknown_type.Goals as goal

pub returns : goal.returns
returns c = both_walked (known c.args.globals.now) c.in_ok-params.params
    (map type_of c.args.types.now) (map signature_of c.args.signatures.now) _ _
    c.in_ok-params.ensures c.in_ok-first.ensures c.unknown_in_signatures.ensures
