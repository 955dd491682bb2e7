use Rattle.std.proofs.Common.{map, ◌≡◌, length, List, []}
use Rattle.core_reader.specs.Grammar.{at_most_200, Decl, constructors_of, functions_of}
use Rattle.core_reader.specs.Tree.{data_of, function}
use Rattle.core_reader.specs.Declaring.{top, run}
use Rattle.core_reader.proofs.parser.Parser.program.Given as goal

abbrev pub invariant-loop-constructors : goal.invariant-loop-constructors
invariant-loop-constructors l =
    record {
      reads : (ds : List Decl) × (constructors_of ds ≡ map data_of l.constructors.items)
          × (functions_of ds ≡ map function l.functions.items)
          × (run at_most_200 (top []) l.fn.self.rest.now ≡ run at_most_200 (top ds)
          l.self.rest.now);
      depth : l.self.depth ≡ 0;
    }

abbrev pub decreases-loop-constructors : goal.decreases-loop-constructors
decreases-loop-constructors l = length l.self.rest.now
