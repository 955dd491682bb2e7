use Rattle.std.proofs.Common.{◌≡◌, drop, map}
use Rattle.std.specs.List.{list_any}
use Rattle.core_link.specs.ModuleOf.{module_of}
use Rattle.core_link.specs.Shared.{declares_main}
use Rattle.core_link.proofs.refuse.have_main.Given as goal

abbrev pub invariant-loop-module : goal.invariant-loop-module
invariant-loop-module l = list_any declares_main (map module_of (drop l.module-index l.modules)) ≡
    list_any declares_main (map module_of l.modules)
