use Rattle.std.proofs.Common.{◌≡◌, None, drop, map}
use Rattle.std.specs.Prelude.{is_none}
use Rattle.core_link.specs.Module.{text_in}
use Rattle.core_link.specs.ModuleOf.{import_of, module_of}
use Rattle.core_link.specs.Found.{earliest}
use Rattle.core_link.specs.Shared.{found_at}
use Rattle.core_link.proofs.between.unknown_import_module.Given as goal

abbrev pub invariant-loop-import : goal.invariant-loop-import
invariant-loop-import l =
    earliest (λ i. is_none
    (found_at l.exports.entries (text_in (module_of l.module) i.from.name.0))) (λ i. i.from.at)
    l.first (map import_of (drop l.import-index l.import-items))
    ≡ earliest
    (λ i. is_none (found_at l.exports.entries (text_in (module_of l.module) i.from.name.0)))
    (λ i. i.from.at) None (module_of l.module).imports
