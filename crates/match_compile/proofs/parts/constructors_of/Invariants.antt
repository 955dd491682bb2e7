use Rattle.std.proofs.Common.{◌≡◌, ◌++◌, drop}
use Rattle.match_compile.proofs.Walks.{constructors_of_all}
use Rattle.match_compile.proofs.parts.constructors_of.Given as goal

abbrev pub invariant-loop-pat : goal.invariant-loop-pat
invariant-loop-pat l = l.constructors.items ++ constructors_of_all (drop l.pat-index l.pats) ≡
    constructors_of_all l.pats
