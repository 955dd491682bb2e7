use Rattle.std.proofs.Common.{◌≡◌, ◌≤◌, ◌+◌, ◌*◌, length, suc}
use Rattle.core_reader.specs.Grammar.{at_most_200}
use Rattle.core_reader.specs.Tree.{NoAlts, Expr}
use Rattle.core_reader.specs.Machine.{alternatives, Cont, nests, AltStart, run}
use Rattle.core_reader.proofs.parser.Parser.+expr.Given as goal

abbrev pub decreases-expr : goal.decreases-expr
decreases-expr l = 2 * length l.self.now.rest.now + 1

abbrev pub decreases-let_in : goal.decreases-let_in
decreases-let_in l = 2 * length l.self.now.rest.now

abbrev pub decreases-case_of : goal.decreases-case_of
decreases-case_of l = 2 * length l.self.now.rest.now

abbrev pub decreases-alts : goal.decreases-alts
decreases-alts l = 2 * length l.self.now.rest.now

abbrev pub invariant-alts-loop-alts : goal.invariant-alts-loop-alts
invariant-alts-loop-alts l =
    record {
      reads : (k : Cont) (e : Expr) → suc (nests k) ≡ l.fn.self.depth
          → run at_most_200 (AltStart k e NoAlts) l.fn.self.rest.now ≡ run at_most_200
          (AltStart k e (alternatives l.alts.items)) l.self.rest.now;
      shorter : length l.self.rest.now ≤ length l.fn.self.rest.now;
      depth : l.self.depth ≡ l.fn.self.depth;
    }

abbrev pub decreases-alts-loop-alts : goal.decreases-alts-loop-alts
decreases-alts-loop-alts l = length l.self.rest.now
