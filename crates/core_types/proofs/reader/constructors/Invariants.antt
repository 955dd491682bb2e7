use Rattle.std.proofs.Common.{◌≡◌, ◌≤◌, length, List, map}
use Rattle.core_reader.specs.declared.syntax.Binder.{Binder}
use Rattle.core_types.specs.SourceOf.{constructor_of}
use Rattle.core_types.specs.Grammar.{Decl}
use Rattle.core_types.specs.Reading.{ConName, empty_type_decl}
use Rattle.core_types.specs.Reading as reading
use Rattle.core_types.proofs.Taking.{type_with}
use Rattle.core_types.proofs.reader.constructors.Given as goal

abbrev pub invariant-loop-constructors : goal.invariant-loop-constructors
invariant-loop-constructors l = record {
  reads : (ds : List Decl) (b : Binder) (ps : List Binder)
      → reading.at (ConName ds (empty_type_decl b ps)) l.fn.parser.rest.now ≡ reading.at
      (ConName ds (type_with b ps (map constructor_of l.constructors.items))) l.parser.rest.now;
  shorter : length l.parser.rest.now ≤ length l.fn.parser.rest.now;
  depth : l.parser.depth ≡ 0;
}

abbrev pub decreases-loop-constructors : goal.decreases-loop-constructors
decreases-loop-constructors l = length l.parser.rest.now
