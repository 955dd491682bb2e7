use Rattle.std.proofs.Common.{map, ◌≡◌, length, List, []}
use Rattle.core_reader.specs.Tree.{data_of}
use Rattle.match_compile.specs.Grammar.{Decl, constructors_of, equations_of}
use Rattle.match_compile.specs.SourceOf.{equation_of}
use Rattle.match_compile.specs.Reading.{top, run}
use Rattle.match_compile.proofs.reader.declarations.Given as goal

abbrev pub invariant-loop-constructors : goal.invariant-loop-constructors
invariant-loop-constructors l =
    record {
      reads : (ds : List Decl) × (constructors_of ds ≡ map data_of l.constructors.items)
          × (equations_of ds ≡ map equation_of l.equations.items)
          × (run (top []) l.fn.parser.rest.now ≡ run (top ds) l.parser.rest.now);
      depth : l.parser.depth ≡ 0;
    }

abbrev pub decreases-loop-constructors : goal.decreases-loop-constructors
decreases-loop-constructors l = length l.parser.rest.now
