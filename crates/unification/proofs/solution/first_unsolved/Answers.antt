use Rattle.std.proofs.Common.{◌<◌, ◌≤◌, ◌+◌, ◌-◌, ◌/◌, length, sym, subst, arith}
use Rattle.std.proofs.lemmas.List.{take_all}
use Rattle.unification.specs.Solutions.{AreUnsolvable}
use Rattle.unification.specs.Terms.{equations}
use Rattle.unification.specs.Trees.{Open}
use Rattle.unification.proofs.Solving.{some_equation, below_taken, first_is}
use Rattle.unification.proofs.solution.first_unsolved.Goals as goal

pub halving-init : goal.halving-init
halving-init c =
    let terms = c.args.terms.now in
    let pairs = c.args.pairs.now in
    let none : AreUnsolvable (equations terms pairs)
    = c.in_ok-is_solvable.ensures.unsolvable c.if-branch.false in
    record {
      less = some_equation terms pairs none;
      within = omega arith;
      lower = (Open, tt);
      upper = subst (λ ps. AreUnsolvable (equations terms ps))
          (sym (take_all (length pairs) pairs (omega arith))) none;
    }

pub is_solvable-requires-in-halving-clause-below :
    goal.is_solvable-requires-in-halving-clause-below
is_solvable-requires-in-halving-clause-below c =
    below_taken (length c.args.terms.now)
    (c.halving.solvable + (c.halving.unsolvable - c.halving.solvable) / 2) c.args.pairs.now
    c.requires.below

pub halving-preserved : goal.halving-preserved
halving-preserved c =
    let within : c.halving.unsolvable ≤ length c.args.pairs.now = c.halving.invariant.within in
    record {
      less = omega (arith, c.halving-test.true);
      within = omega (arith, within, c.halving-test.true);
      lower = c.halving.invariant.lower;
      upper = c.in_ok-is_solvable-2.ensures.unsolvable c.if-branch-2.false;
    }

pub returns : goal.returns
returns c =
    let less : c.halving.solvable < c.halving.unsolvable = c.halving.invariant.less in
    let last : c.halving.unsolvable - c.halving.solvable ≤ 1 = c.halving-test.false in
    first_is c.args.terms.now c.args.pairs.now c.halving.solvable c.halving.unsolvable
    (omega (arith, less, last)) c.halving.invariant.lower c.halving.invariant.upper
