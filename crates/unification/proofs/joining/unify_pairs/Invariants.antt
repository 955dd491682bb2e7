use Rattle.unification.specs.Classes.{MergingProgresses, work}
use Rattle.unification.proofs.joining.unify_pairs.Given as goal

abbrev pub invariant-joining : goal.invariant-joining
invariant-joining l = MergingProgresses l.terms l.fn.classes l.fn.pairs.items l.classes l.todo.items

abbrev pub decreases-joining : goal.decreases-joining
decreases-joining l = work l.terms l.classes l.todo.items
