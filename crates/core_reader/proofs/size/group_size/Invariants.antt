use Rattle.std.proofs.Common.{◌≡◌, ◌+◌, drop, map}
use Rattle.std.specs.Prelude.{sum_by}
use Rattle.core_reader.specs.Tree.{bind}
use Rattle.core_reader.specs.Size.{bind_size}
use Rattle.core_reader.proofs.size.group_size.Given as goal

abbrev pub invariant-loop-bind : goal.invariant-loop-bind
invariant-loop-bind l = l.total + sum_by bind_size (map bind (drop l.bind-index l.group)) ≡ sum_by
    bind_size (map bind l.group)
