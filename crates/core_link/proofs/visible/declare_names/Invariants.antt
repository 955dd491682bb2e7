use Rattle.std.proofs.Common.{◌≡◌, drop}
use Rattle.std.specs.Prelude.{fold}
use Rattle.core_reader.specs.Tree.{program}
use Rattle.core_link.specs.Shared.{declare}
use Rattle.core_link.proofs.visible.declare_names.Given as goal

abbrev pub invariant-loop-name : goal.invariant-loop-name
invariant-loop-name l = fold declare (program l.core) (drop l.name-index l.names) ≡ fold declare
    (program l.fn.core) l.names
