use Rattle.flow_system.specs.Shown.{tables_of, inclusions_of}
use Rattle.points_to.specs.Kept.{IsSound}
use Rattle.points_to.proofs.vectors.least_kept.Given as goal

abbrev pub invariant-rounds : goal.invariant-rounds
invariant-rounds l = IsSound (tables_of l.system) (inclusions_of l.system) l.kept
