use Rattle.flow_system.specs.Shown.{tables_of, inclusions_of}
use Rattle.points_to.specs.Copies.{IsReached}
use Rattle.points_to.proofs.fast.solve_by_copies.Given as goal

abbrev pub invariant-steps : goal.invariant-steps
invariant-steps l = IsReached (tables_of l.system) (inclusions_of l.system) l.state
