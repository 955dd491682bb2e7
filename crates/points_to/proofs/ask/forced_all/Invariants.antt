use Rattle.std.proofs.Common.{◌≡◌, ◌++◌, take}
use Rattle.std.specs.List.{flat_map}
use Rattle.flow_system.specs.Shown.{tables_of}
use Rattle.points_to.specs.Known.{held}
use Rattle.points_to.specs.Asked.{forced}
use Rattle.points_to.proofs.ask.forced_all.Given as goal

abbrev pub invariant-loop-word : goal.invariant-loop-word
invariant-loop-word l = l.out ≡ l.initial.out ++ flat_map
    (forced (tables_of l.system) (held l.facts) l.s) (take l.word-index l.words)
