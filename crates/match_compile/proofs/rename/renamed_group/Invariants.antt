use Rattle.std.proofs.Common.{◌≡◌, map}
use Rattle.core_reader.specs.Tree.{bind}
use Rattle.match_compile.specs.Renamed.{renamed_bind}
use Rattle.match_compile.proofs.rename.renamed_group.Given as goal

abbrev pub invariant-loop-member : goal.invariant-loop-member
invariant-loop-member l = map bind l.made ≡ map (renamed_bind l.scope) (map bind l.yielded)
