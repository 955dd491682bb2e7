use Rattle.std.proofs.Common.{◌≡◌, ◌+◌, drop}
use Rattle.core_meaning.specs.Evaluation.{con_named}
use Rattle.grin_translate.proofs.names.constructor_named.Given as goal

abbrev pub invariant-loop-c : goal.invariant-loop-c
invariant-loop-c l = con_named l.name l.constructors ≡ l.c + con_named l.name
    (drop l.c l.constructors)
