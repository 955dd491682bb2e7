use Rattle.std.proofs.Common.{◌≡◌, map}
use Rattle.core_reader.specs.Tree.{term}
use Rattle.arity_check.specs.Tables.{known}
use Rattle.core_link.specs.Renaming.{numbers_of, renamed_term}
use Rattle.core_link.proofs.rename.Renamer.+rename_app.Given as goal

abbrev pub invariant-app-loop-arg : goal.invariant-app-loop-arg
invariant-app-loop-arg l = record {
  head : l.head ≡ l.initial.head;
  args : map term l.args ≡ map
      (renamed_term (numbers_of l.self.renaming.now) (known l.self.globals.now) l.scope)
      (map term l.yielded);
}
