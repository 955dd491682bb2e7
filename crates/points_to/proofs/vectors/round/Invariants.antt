use Rattle.std.proofs.Common.{◌≡◌}
use Rattle.flow_system.specs.Shown.{tables_of, inclusions_of}
use Rattle.points_to.proofs.WholeFetch.{RoundSoFar}
use Rattle.points_to.proofs.vectors.round.Given as goal

abbrev pub invariant-loop-inclusion : goal.invariant-loop-inclusion
invariant-loop-inclusion l = record {
  so_far : RoundSoFar (tables_of l.system) (inclusions_of l.system) l.initial.kept l.kept l.added
      l.inclusion-index;
  number : l.n ≡ l.inclusion-index;
}
