use Rattle.std.proofs.Common.{◌≡◌, [], drop}
use Rattle.match_compile.specs.TreeOf.{tree_of}
use Rattle.match_compile.specs.EmissionOf.{places_of}
use Rattle.match_compile.proofs.emission.parameters.Given as goal

abbrev pub invariant-loop-column : goal.invariant-loop-column
invariant-loop-column l =
    places_of l.writer.words.now l.writer.at l.writer.params l.is_called (tree_of l.tree)
    (drop l.column-index l.columns) l.places
    ≡ places_of l.writer.words.now l.writer.at l.writer.params l.is_called (tree_of l.tree)
    l.columns []
