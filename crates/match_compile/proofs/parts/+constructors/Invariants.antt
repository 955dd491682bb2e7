use Rattle.std.proofs.Common.{◌≡◌, ◌++◌, drop}
use Rattle.match_compile.proofs.Walks.{constructors_of_all}
use Rattle.match_compile.proofs.parts.+constructors.Given as goal

abbrev pub invariant-loop-field : goal.invariant-loop-field
invariant-loop-field l = l.constructors.items ++ constructors_of_all
    (drop l.field-index l.field-items) ≡ l.initial.constructors.items
    ++ constructors_of_all l.field-items
