use Rattle.std.proofs.Common.{◌≡◌, ◌++◌, take}
use Rattle.std.specs.List.{flat_map}
use Rattle.flow_system.specs.Shown.{tables_of, sink_of}
use Rattle.points_to.specs.Known.{held}
use Rattle.points_to.specs.Applied.{tag_applied}
use Rattle.points_to.proofs.ask.tags_applied.Given as goal

abbrev pub invariant-loop-word : goal.invariant-loop-word
invariant-loop-word l = l.out ≡ l.initial.out ++ flat_map
    (tag_applied (tables_of l.system) (held l.facts) l.nodes.nodes l.a (sink_of l.sink))
    (take l.word-index l.words)
