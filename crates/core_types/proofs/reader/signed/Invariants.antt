use Rattle.std.proofs.Common.{◌≡◌, ◌≤◌, length, List}
use Rattle.core_types.specs.Source.{NoTypes}
use Rattle.core_types.specs.SourceOf.{types_in}
use Rattle.core_types.specs.Grammar.{Decl}
use Rattle.core_types.specs.Reading.{OneType, InParts}
use Rattle.core_types.specs.Reading as reading
use Rattle.core_types.proofs.reader.signed.Given as goal

abbrev pub invariant-loop-args : goal.invariant-loop-args
invariant-loop-args l = record {
  reads : (ds : List Decl) → reading.at (OneType (InParts ds l.fn.function NoTypes))
      l.fn.parser.rest.now ≡ reading.at (OneType (InParts ds l.fn.function (types_in l.args.items)))
      l.parser.rest.now;
  shorter : length l.parser.rest.now ≤ length l.fn.parser.rest.now;
  depth : l.parser.depth ≡ 0;
  function : l.function ≡ l.fn.function;
}

abbrev pub decreases-loop-args : goal.decreases-loop-args
decreases-loop-args l = length l.parser.rest.now
