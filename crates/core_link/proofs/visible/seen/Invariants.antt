use Rattle.std.proofs.Common.{◌≡◌, drop, map}
use Rattle.core_reader.specs.Tree.{program}
use Rattle.core_link.specs.ModuleOf.{import_of}
use Rattle.core_link.specs.Shared.{declare_all}
use Rattle.core_link.proofs.visible.seen.Given as goal

abbrev pub invariant-loop-import : goal.invariant-loop-import
invariant-loop-import l = declare_all (program l.core)
    (map import_of (drop l.import-index l.imports)) ≡ declare_all (program l.fn.core)
    (map import_of l.imports)
