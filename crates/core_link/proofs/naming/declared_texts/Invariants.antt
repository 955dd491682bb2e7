use Rattle.std.proofs.Common.{◌≡◌, ◌++◌, map, drop}
use Rattle.core_reader.specs.Tree.{function}
use Rattle.core_link.specs.Module.{text_in, name_of}
use Rattle.core_link.specs.ModuleOf.{module_of}
use Rattle.core_link.specs.Union.{global_text}
use Rattle.core_link.proofs.naming.declared_texts.Given as goal

abbrev pub invariant-loop-function : goal.invariant-loop-function
invariant-loop-function l =
    l.texts.items ++ map
    (λ f. global_text (text_in (module_of l.module) f.name) (name_of (module_of l.module)))
    (map function (drop l.function-index l.function-items))
    ≡ map (λ f. global_text (text_in (module_of l.module) f.name) (name_of (module_of l.module)))
    (module_of l.module).functions
