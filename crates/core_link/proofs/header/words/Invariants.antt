use Rattle.std.proofs.Common.{◌≡◌, ◌≤◌, length, List}
use Rattle.core_reader.specs.declared.syntax.Binder.{Binder}
use Rattle.core_link.specs.Heading.{State, KeepsWords, run}
use Rattle.core_link.proofs.header.words.Given as goal

abbrev pub invariant-loop-name : goal.invariant-loop-name
invariant-loop-name l = record {
  reads : (state next : List Binder → State) → KeepsWords state next
      → run (state l.fn.words.items) l.fn.parser.rest.now ≡ run (state l.words.items)
      l.parser.rest.now;
  shorter : length l.parser.rest.now ≤ length l.fn.parser.rest.now;
  depth : l.parser.depth ≡ l.fn.parser.depth;
}

abbrev pub decreases-loop-name : goal.decreases-loop-name
decreases-loop-name l = length l.parser.rest.now
