use Rattle.std.proofs.Common.{◌≡◌, map}
use Rattle.core_reader.specs.Tree.{function}
use Rattle.arity_check.specs.Tables.{known}
use Rattle.core_link.specs.Renaming.{numbers_of, renamed_functions}
use Rattle.core_link.proofs.join.functions.Given as goal

abbrev pub invariant-loop-function : goal.invariant-loop-function
invariant-loop-function l = map function l.made ≡ renamed_functions
    (numbers_of l.renamer.renaming.now) (known l.renamer.globals.now) 0 (map function l.yielded)
