use Rattle.std.proofs.Common.{◌≡◌, ◌≤◌, length, ◌++◌}
use Rattle.core_reader.specs.Grammar.{binders}
use Rattle.core_reader.proofs.parser.Parser.names.Given as goal

abbrev pub invariant-loop-name : goal.invariant-loop-name
invariant-loop-name l =
    record {
      reads : l.fn.self.rest.now ≡ binders l.names.items ++ l.self.rest.now;
      shorter : length l.self.rest.now ≤ length l.fn.self.rest.now;
      depth : l.self.depth ≡ l.fn.self.depth;
    }

abbrev pub decreases-loop-name : goal.decreases-loop-name
decreases-loop-name l = length l.self.rest.now
