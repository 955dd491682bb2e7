use Rattle.std.proofs.Common.{◌<◌, ◌≤◌, ◌-◌, length, take}
use Rattle.unification.specs.Solutions.{Substitution, Solves, AreUnsolvable}
use Rattle.unification.specs.Terms.{equations}
use Rattle.unification.proofs.solution.first_unsolved.Given as goal

abbrev pub invariant-halving : goal.invariant-halving
invariant-halving l = record {
  less : l.solvable < l.unsolvable;
  within : l.unsolvable ≤ length l.pairs;
  lower : (σ : Substitution) × Solves σ (equations l.terms (take l.solvable l.pairs));
  upper : AreUnsolvable (equations l.terms (take l.unsolvable l.pairs));
}

abbrev pub decreases-halving : goal.decreases-halving
decreases-halving l = l.unsolvable - l.solvable
