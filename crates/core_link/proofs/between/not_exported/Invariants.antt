use Rattle.std.proofs.Common.{◌≡◌, None, drop, map}
use Rattle.std.specs.List.{flat_map}
use Rattle.core_link.specs.Module.{text_in, imported}
use Rattle.core_link.specs.ModuleOf.{import_of, module_of}
use Rattle.core_link.specs.Found.{earliest}
use Rattle.core_link.specs.Shared.{found_at, lacks}
use Rattle.core_link.proofs.Takings.{pairs}
use Rattle.core_link.proofs.between.not_exported.Given as goal

abbrev pub invariant-loop-import : goal.invariant-loop-import
invariant-loop-import l =
    earliest (λ i. lacks (found_at l.exports.entries (text_in (module_of l.module) i.0.name.0))
    (text_in (module_of l.module) i.1.name.0)) (λ i. i.1.at) l.first
    (flat_map pairs (map import_of (drop l.import-index l.import-items)))
    ≡ earliest
    (λ i. lacks (found_at l.exports.entries (text_in (module_of l.module) i.0.name.0))
    (text_in (module_of l.module) i.1.name.0)) (λ i. i.1.at) None
    (imported (module_of l.module))
