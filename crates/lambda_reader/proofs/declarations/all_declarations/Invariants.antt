use Rattle.std.proofs.Common.{map, ◌≡◌, length, List, []}
use Rattle.core_reader.specs.Grammar.{at_most_200}
use Rattle.core_reader.specs.Tree.{data_of}
use Rattle.lambda_reader.specs.Code.{function}
use Rattle.lambda_reader.specs.Programs.{Decl, constructors_of, functions_of}
use Rattle.lambda_reader.specs.Declaring.{top, run}
use Rattle.lambda_reader.proofs.declarations.all_declarations.Given as goal

abbrev pub invariant-loop-constructors : goal.invariant-loop-constructors
invariant-loop-constructors l =
    record {
      reads : (ds : List Decl) × (constructors_of ds ≡ map data_of l.constructors.items)
          × (functions_of ds ≡ map function l.functions.items)
          × (run at_most_200 (top []) l.fn.parser.rest.now ≡ run at_most_200 (top ds)
          l.parser.rest.now);
      depth : l.parser.depth ≡ 0;
    }

abbrev pub decreases-loop-constructors : goal.decreases-loop-constructors
decreases-loop-constructors l = length l.parser.rest.now
