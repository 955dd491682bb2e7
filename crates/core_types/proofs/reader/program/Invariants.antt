use Rattle.std.proofs.Common.{map, ◌≡◌, length, List, []}
use Rattle.core_reader.specs.Tree.{function}
use Rattle.core_types.specs.SourceOf.{type_of, signature_of}
use Rattle.core_types.specs.Grammar.{Decl, types_of, signatures_of, functions_of}
use Rattle.core_types.specs.Reading.{Top}
use Rattle.core_types.specs.Reading as reading
use Rattle.core_types.proofs.reader.program.Given as goal

abbrev pub invariant-loop-found : goal.invariant-loop-found
invariant-loop-found l = record {
  reads : (ds : List Decl) × (types_of ds ≡ map type_of l.found.types.items)
      × (signatures_of ds ≡ map signature_of l.found.signatures.items)
      × (functions_of ds ≡ map function l.found.functions.items)
      × (reading.at (Top []) l.fn.parser.rest.now ≡ reading.at (Top ds) l.parser.rest.now);
  depth : l.parser.depth ≡ 0;
}

abbrev pub decreases-loop-found : goal.decreases-loop-found
decreases-loop-found l = length l.parser.rest.now
