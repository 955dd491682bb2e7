use Rattle.std.proofs.Common.{◌≡◌, ◌<◌, ◌≤◌, ◌+◌, ◌*◌, length, suc, true}
use Rattle.core_reader.specs.Grammar.{at_most_200}
use Rattle.lambda_reader.specs.Tree.{NoTerms, AndTerm, NoBinds, NoAlts, Expr}
use Rattle.lambda_reader.specs.Code.{term}
use Rattle.lambda_reader.specs.Machine.{Cont, nests, Frame, opens, Apply, BindName, AltStart, run}
use Rattle.lambda_reader.specs.Reads.{terms, group, alternatives}
use Rattle.lambda_reader.proofs.expressions.+expressions.Given as goal

abbrev pub decreases-inside : goal.decreases-inside
decreases-inside l = 4 * length l.parser.now.rest.now + 3

abbrev pub decreases-headed : goal.decreases-headed
decreases-headed l = 4 * length l.parser.now.rest.now + 3

abbrev pub decreases-expr : goal.decreases-expr
decreases-expr l = 4 * length l.parser.now.rest.now + 3

abbrev pub decreases-app : goal.decreases-app
decreases-app l = 4 * length l.parser.now.rest.now + 2

abbrev pub decreases-atom : goal.decreases-atom
decreases-atom l = 4 * length l.parser.now.rest.now + 1

abbrev pub decreases-group : goal.decreases-group
decreases-group l = 4 * length l.parser.now.rest.now + 1

abbrev pub decreases-bracket : goal.decreases-bracket
decreases-bracket l = 4 * length l.parser.now.rest.now

abbrev pub decreases-lambda : goal.decreases-lambda
decreases-lambda l = 4 * length l.parser.now.rest.now

abbrev pub decreases-member : goal.decreases-member
decreases-member l = 4 * length l.parser.now.rest.now

abbrev pub decreases-let_in : goal.decreases-let_in
decreases-let_in l = 4 * length l.parser.now.rest.now

abbrev pub decreases-case_of : goal.decreases-case_of
decreases-case_of l = 4 * length l.parser.now.rest.now

abbrev pub decreases-alts : goal.decreases-alts
decreases-alts l = 4 * length l.parser.now.rest.now

abbrev pub invariant-app-loop-args : goal.invariant-app-loop-args
invariant-app-loop-args l =
    record {
      reads : (k : Frame) → opens k ≡ l.fn.parser.depth
          → run true at_most_200 (Apply k NoTerms) l.fn.parser.rest.now ≡ run true at_most_200
          (Apply k (AndTerm (term l.head) (terms l.args.items))) l.parser.rest.now;
      shorter : length l.parser.rest.now < length l.fn.parser.rest.now;
      depth : l.parser.depth ≡ l.fn.parser.depth;
    }

abbrev pub decreases-app-loop-args : goal.decreases-app-loop-args
decreases-app-loop-args l = length l.parser.rest.now

abbrev pub invariant-group-loop-members : goal.invariant-group-loop-members
invariant-group-loop-members l =
    record {
      reads : (k : Cont) → suc (nests k) ≡ l.fn.parser.depth
          → run true at_most_200 (BindName k NoBinds) l.fn.parser.rest.now ≡ run true at_most_200
          (BindName k (group l.members.items)) l.parser.rest.now;
      shorter : length l.parser.rest.now ≤ length l.fn.parser.rest.now;
      depth : l.parser.depth ≡ l.fn.parser.depth;
    }

abbrev pub decreases-group-loop-members : goal.decreases-group-loop-members
decreases-group-loop-members l = length l.parser.rest.now

abbrev pub invariant-alts-loop-alts : goal.invariant-alts-loop-alts
invariant-alts-loop-alts l =
    record {
      reads : (k : Cont) (e : Expr) → suc (nests k) ≡ l.fn.parser.depth
          → run true at_most_200 (AltStart k e NoAlts) l.fn.parser.rest.now ≡ run true at_most_200
          (AltStart k e (alternatives l.alts.items)) l.parser.rest.now;
      shorter : length l.parser.rest.now ≤ length l.fn.parser.rest.now;
      depth : l.parser.depth ≡ l.fn.parser.depth;
    }

abbrev pub decreases-alts-loop-alts : goal.decreases-alts-loop-alts
decreases-alts-loop-alts l = length l.parser.rest.now
