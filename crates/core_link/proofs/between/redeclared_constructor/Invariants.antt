use Rattle.std.proofs.Common.{◌≡◌, None, drop, map}
use Rattle.core_reader.specs.LexedOf.{texts_of}
use Rattle.core_reader.specs.Tree.{data_of}
use Rattle.core_link.specs.Module.{text_in}
use Rattle.core_link.specs.ModuleOf.{module_of}
use Rattle.core_link.specs.Found.{earliest}
use Rattle.core_link.specs.Shared.{has}
use Rattle.core_link.proofs.between.redeclared_constructor.Given as goal

abbrev pub invariant-loop-constructor : goal.invariant-loop-constructor
invariant-loop-constructor l =
    earliest (λ d. has (texts_of l.earlier.keys) (text_in (module_of l.module) d.name)) (λ d. d.at)
    l.first (map data_of (drop l.constructor-index l.constructor-items))
    ≡ earliest (λ d. has (texts_of l.earlier.keys) (text_in (module_of l.module) d.name))
    (λ d. d.at) None (module_of l.module).constructors
