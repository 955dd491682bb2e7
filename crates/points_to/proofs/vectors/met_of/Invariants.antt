use Rattle.flow_system.specs.Shown.{tables_of}
use Rattle.points_to.specs.Kept.{MetExact}
use Rattle.points_to.proofs.vectors.met_of.Given as goal

abbrev pub invariant-loop-inclusion : goal.invariant-loop-inclusion
invariant-loop-inclusion l = MetExact (tables_of l.system) l.kept l.met
