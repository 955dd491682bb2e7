use Rattle.std.proofs.Common.{◌≡◌, ◌++◌, map, drop, filter}
use Rattle.std.specs.Prelude.{not}
use Rattle.std.specs.List.{flat_map}
use Rattle.core_link.specs.Module.{Import, is_constructor}
use Rattle.core_link.specs.ModuleOf.{module_of, import_of}
use Rattle.core_link.specs.Renaming.{imported_text, function_texts}
use Rattle.core_link.proofs.naming.function_texts.Given as goal

abbrev pub invariant-loop-import : goal.invariant-loop-import
invariant-loop-import l =
    l.texts.items ++ map (imported_text (module_of l.module))
    (filter (λ i. not (is_constructor (module_of l.module) i.1))
    (flat_map (λ (i : Import). map (λ b. (i.from, b)) i.names)
    (map import_of (drop l.import-index l.import-items))))
    ≡ function_texts (module_of l.module)
