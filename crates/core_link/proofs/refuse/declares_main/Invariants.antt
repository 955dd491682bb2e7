use Rattle.std.proofs.Common.{◌≡◌, drop, map}
use Rattle.std.specs.Prelude.{codes}
use Rattle.std.specs.List.{list_any}
use Rattle.std.specs.Str.{bytes_eq}
use Rattle.core_reader.specs.Tree.{function}
use Rattle.core_link.specs.Module.{text_in}
use Rattle.core_link.specs.ModuleOf.{module_of}
use Rattle.core_link.proofs.refuse.declares_main.Given as goal

abbrev pub invariant-loop-function : goal.invariant-loop-function
invariant-loop-function l =
    list_any (λ f. bytes_eq (text_in (module_of l.module) f.name) (codes "main"))
    (map function (drop l.function-index l.function-items))
    ≡ list_any (λ f. bytes_eq (text_in (module_of l.module) f.name) (codes "main"))
    (module_of l.module).functions
