use Rattle.std.proofs.Common.{◌≡◌, Some}
use Rattle.unification.specs.declared.walk.VisitMark.TheVariants.{Unseen}
use Rattle.unification.specs.Walks.{IsDepthFirstWalk, WalkExtends, remaining_visits, mark_of}
use Rattle.unification.proofs.walk.Walk.visit.Given as goal

abbrev pub invariant-walking : goal.invariant-walking
invariant-walking l = record {
  walk : IsDepthFirstWalk l.terms l.classes l.self;
  goes : WalkExtends l.fn.self l.self;
  seen : mark_of l.self l.class ≡ Some Unseen → ⊥;
}

abbrev pub decreases-walking : goal.decreases-walking
decreases-walking l = remaining_visits l.terms l.classes l.self
