use Rattle.flow_system.specs.Shown.{tables_of}
use Rattle.points_to.proofs.Solved.{RoundSoFar}
use Rattle.points_to.proofs.rounds.round.Given as goal

abbrev pub invariant-loop-inclusion : goal.invariant-loop-inclusion
invariant-loop-inclusion l = RoundSoFar (tables_of l.system) l.inclusion-items l.initial.facts
    l.facts l.added l.inclusion-index
