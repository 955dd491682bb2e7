use Rattle.std.proofs.Common.{◌≡◌, map}
use Rattle.core_reader.specs.Tree.{term}
use Rattle.match_compile.specs.Renamed.{renamed_term}
use Rattle.match_compile.proofs.rename.+rename_app.Given as goal

abbrev pub invariant-renamed_app-loop-arg : goal.invariant-renamed_app-loop-arg
invariant-renamed_app-loop-arg l = record {
  head : l.head ≡ l.initial.head;
  args : map term l.args ≡ map (renamed_term l.scope) (map term l.yielded);
}
