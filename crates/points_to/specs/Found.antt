-- The solution that was found.
use Rattle.std.specs.Prelude.{List}
use Rattle.flow_system.specs.declared.fact.Place.{Place}
use Rattle.flow_system.specs.Solution.{Solution}
use Rattle.points_to.specs.declared.facts.Item.{Item}
use Rattle.points_to.specs.declared.flow.Flow.{Flow}
use Rattle.points_to.specs.Known.{solution_of}
use Rattle.points_to.specs.Stored.{tables_in, whole}

-- all that it knows
abbrev pub known : Flow → Place → List Item
known f = whole (tables_in f.origin) f.origin.values f.facts f.stored

abbrev pub found : Flow → Solution
found f = solution_of (known f)
