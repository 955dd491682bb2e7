-- The solution that the code reads.
use Rattle.std.specs.Prelude.{option_copied}
use Rattle.flow_system.specs.Solution.{Solution}
use Rattle.pass_known.specs.declared.told.Told.{Told}
use Rattle.pass_known.specs.Told.{solution_or_empty}

abbrev pub known_solution : Told → Solution
known_solution t = solution_or_empty (option_copied t.flow)
