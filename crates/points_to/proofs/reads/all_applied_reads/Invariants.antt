use Rattle.std.proofs.Common.{◌≡◌, ◌++◌, take}
use Rattle.std.specs.List.{flat_map}
use Rattle.flow_system.specs.Shown.{tables_of}
use Rattle.points_to.specs.Reads.{applied_reads}
use Rattle.points_to.proofs.reads.all_applied_reads.Given as goal

abbrev pub invariant-loop-word : goal.invariant-loop-word
invariant-loop-word l = l.out ≡ l.initial.out ++ flat_map (applied_reads (tables_of l.system))
    (take l.word-index l.words)
