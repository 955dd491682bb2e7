-- Items, each turned into others.
use Rattle.std.specs.Prelude.{List}
use Rattle.flow_system.specs.Tables.{Tables}
use Rattle.points_to.specs.declared.facts.Item.{Item}
use Rattle.points_to.specs.declared.nodes.Shift.{Shift}
use Rattle.points_to.specs.declared.nodes.Shift.TheVariants.{Nodes, Evaluated, Fields, Renamed, Arguments}
use Rattle.points_to.specs.Held.{node_part, done_part, field_part, moved_part, argument_part}

abbrev pub shifted_items : Tables → Shift → Item → List Item
shifted_items p Nodes i = node_part i.part i
shifted_items p Evaluated i = done_part p i.part i.word
shifted_items p (Fields t m) i = field_part t m i.part i.word
shifted_items p (Renamed t t') i = moved_part t t' i.part i.word
shifted_items p (Arguments t) i = argument_part t i.part i.word
