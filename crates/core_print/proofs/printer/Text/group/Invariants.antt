use Rattle.std.proofs.Common.{◌≡◌, ◌++◌, codes, drop, map}
use Rattle.core_reader.specs.Tree.{bind}
use Rattle.core_print.specs.Canonical.{group_text}
use Rattle.core_print.proofs.printer.Text.group.Given as goal

abbrev pub invariant-loop-bind : goal.invariant-loop-bind
invariant-loop-bind l = l.self ++ group_text l.names l.lead (map bind (drop l.bind-index l.group)) ≡
    l.fn.self ++ group_text l.names (codes " ") (map bind l.group)
