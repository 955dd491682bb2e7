use Rattle.std.proofs.Common.{◌≡◌, ◌++◌, drop}
use Rattle.match_compile.proofs.Walks.{names_of_all}
use Rattle.match_compile.proofs.parts.+names.Given as goal

abbrev pub invariant-loop-field : goal.invariant-loop-field
invariant-loop-field l = l.names.items ++ names_of_all (drop l.field-index l.field-items) ≡
    l.initial.names.items ++ names_of_all l.field-items
