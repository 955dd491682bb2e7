use Rattle.std.proofs.Common.{◌≡◌, map}
use Rattle.core_reader.specs.Tree.{bind}
use Rattle.arity_check.specs.Tables.{known}
use Rattle.core_link.specs.Renaming.{numbers_of, renamed_bind}
use Rattle.core_link.proofs.rename.Renamer.group.Given as goal

abbrev pub invariant-loop-member : goal.invariant-loop-member
invariant-loop-member l = map bind l.made ≡ map
    (renamed_bind (numbers_of l.self.renaming.now) (known l.self.globals.now) l.scope)
    (map bind l.yielded)
