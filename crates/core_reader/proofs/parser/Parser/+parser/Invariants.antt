use Rattle.std.proofs.Common.{◌≡◌, ◌<◌, length, ◌+◌, ◌*◌}
use Rattle.core_reader.specs.Tree as tree
use Rattle.core_reader.specs.Grammar.{at_most_200}
use Rattle.core_reader.specs.Tree.{NoTerms, AndTerm, Let, Case, NoAlts, AndAlt, Expr, Alts}
use Rattle.core_reader.specs.Machine.{terms, Frame, opens, Apply, run}
use Rattle.core_reader.proofs.parser.Parser.+parser.Given as goal

abbrev pub decreases-app : goal.decreases-app
decreases-app l = 3 * length l.self.now.rest.now + 2

abbrev pub decreases-atom : goal.decreases-atom
decreases-atom l = 3 * length l.self.now.rest.now + 1

abbrev pub decreases-bracket : goal.decreases-bracket
decreases-bracket l = 3 * length l.self.now.rest.now

abbrev pub invariant-app-loop-args : goal.invariant-app-loop-args
invariant-app-loop-args l =
    record {
      reads : (k : Frame) → opens k ≡ l.fn.self.depth
          → run at_most_200 (Apply k NoTerms) l.fn.self.rest.now ≡ run at_most_200
          (Apply k (AndTerm (tree.term l.head) (terms l.args.items))) l.self.rest.now;
      shorter : length l.self.rest.now < length l.fn.self.rest.now;
      depth : l.self.depth ≡ l.fn.self.depth;
    }

abbrev pub decreases-app-loop-args : goal.decreases-app-loop-args
decreases-app-loop-args l = length l.self.rest.now
