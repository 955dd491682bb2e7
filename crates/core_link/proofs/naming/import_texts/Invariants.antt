use Rattle.std.proofs.Common.{◌≡◌, ◌++◌, map, drop, filter}
use Rattle.std.specs.Prelude.{not}
use Rattle.core_link.specs.Module.{is_constructor}
use Rattle.core_link.specs.ModuleOf.{module_of}
use Rattle.core_link.specs.Renaming.{imported_text}
use Rattle.core_link.proofs.naming.import_texts.Given as goal

abbrev pub invariant-loop-name : goal.invariant-loop-name
invariant-loop-name l =
    l.texts.items ++ map (imported_text (module_of l.module))
    (filter (λ i. not (is_constructor (module_of l.module) i.1))
    (map (λ b. (l.import.from, b)) (drop l.name-index l.name-items)))
    ≡ l.fn.texts.items ++ map (imported_text (module_of l.module))
    (filter (λ i. not (is_constructor (module_of l.module) i.1))
    (map (λ b. (l.import.from, b)) l.import.names))
