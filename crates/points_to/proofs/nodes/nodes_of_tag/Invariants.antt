use Rattle.std.proofs.Common.{◌≡◌, ◌++◌, take}
use Rattle.std.specs.List.{flat_map}
use Rattle.flow_system.specs.Shown.{tables_of}
use Rattle.points_to.specs.OneTag.{node_if_tag}
use Rattle.points_to.proofs.nodes.nodes_of_tag.Given as goal

abbrev pub invariant-loop-word : goal.invariant-loop-word
invariant-loop-word l = l.out ≡ l.initial.out ++ flat_map
    (node_if_tag (tables_of l.system) l.t l.k l.items) (take l.word-index l.words)
