use Rattle.std.proofs.Common.{◌≡◌, length, []}
use Rattle.core_reader.specs.declared.syntax.Binder.{Binder}
use Rattle.core_link.specs.Heading.{Exports, head, run}
use Rattle.core_link.proofs.header.exports.Given as goal

abbrev pub invariant-loop-exports : goal.invariant-loop-exports
invariant-loop-exports l = record {
  reads : (name : Binder) → run (Exports (head name [] [])) l.fn.parser.rest.now ≡ run
      (Exports (head name l.exports.items [])) l.parser.rest.now;
  depth : l.parser.depth ≡ l.fn.parser.depth;
}

abbrev pub decreases-loop-exports : goal.decreases-loop-exports
decreases-loop-exports l = length l.parser.rest.now
