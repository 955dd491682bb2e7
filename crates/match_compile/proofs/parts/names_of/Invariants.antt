use Rattle.std.proofs.Common.{◌≡◌, ◌++◌, drop}
use Rattle.match_compile.proofs.Walks.{names_of_all}
use Rattle.match_compile.proofs.parts.names_of.Given as goal

abbrev pub invariant-loop-pat : goal.invariant-loop-pat
invariant-loop-pat l = l.names.items ++ names_of_all (drop l.pat-index l.pats) ≡ names_of_all l.pats
