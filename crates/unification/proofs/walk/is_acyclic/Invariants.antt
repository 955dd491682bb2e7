use Rattle.std.proofs.Common.{◌≡◌, ◌<◌, ℕ, [], Some}
use Rattle.unification.specs.declared.walk.VisitMark.TheVariants.{Done}
use Rattle.unification.specs.Shown.{class_of}
use Rattle.unification.specs.Walks.{IsDepthFirstWalk, mark_of}
use Rattle.unification.proofs.walk.is_acyclic.Given as goal

abbrev pub invariant-loop-i : goal.invariant-loop-i
invariant-loop-i l = record {
  walk : IsDepthFirstWalk l.terms l.classes l.walk;
  path : l.walk.path.items ≡ [];
  done : (j : ℕ) → j < l.i → mark_of l.walk (class_of l.classes j) ≡ Some Done;
}
