use Rattle.std.proofs.Common.{◌≡◌, ◌≤◌, length, suc, []}
use Rattle.core_reader.specs.Grammar.{at_most_200}
use Rattle.core_reader.specs.Machine.{binds_of, Cont, nests, BindName, run}
use Rattle.core_reader.proofs.parser.Parser.binds.Given as goal

abbrev pub invariant-loop-binds : goal.invariant-loop-binds
invariant-loop-binds l =
    record {
      reads : (k : Cont) → suc (nests k) ≡ l.fn.self.depth
          → run at_most_200 (BindName k []) l.fn.self.rest.now ≡ run at_most_200
          (BindName k (binds_of l.binds.items)) l.self.rest.now;
      shorter : length l.self.rest.now ≤ length l.fn.self.rest.now;
      depth : l.self.depth ≡ l.fn.self.depth;
    }

abbrev pub decreases-loop-binds : goal.decreases-loop-binds
decreases-loop-binds l = length l.self.rest.now
