use Rattle.std.proofs.Common.{◌≡◌, take}
use Rattle.std.specs.Prelude.{sum_by}
use Rattle.core_reader.specs.Size.{program_size}
use Rattle.core_link.specs.Module.{body}
use Rattle.core_link.specs.ModuleOf.{module_of}
use Rattle.core_link.proofs.join.whole_size.Given as goal

abbrev pub invariant-loop-module : goal.invariant-loop-module
invariant-loop-module l = l.total ≡ sum_by (λ m. program_size (body (module_of m)))
    (take l.module-index l.modules)
