use Rattle.std.proofs.Common.{◌≡◌}
use Rattle.pass_known.specs.Telling.{known_solution}
use Rattle.case_simplify.specs.Known.{facts_of}
use Rattle.pass_known.specs.Told.{known_cells}
use Rattle.pass_known.proofs.told.Told.known_cells.Given as goal

abbrev pub invariant-cells : goal.invariant-cells
invariant-cells l = l.made ≡ known_cells l.self.count (known_solution l.self) (facts_of l.facts)
    l.yielded
