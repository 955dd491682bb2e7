use Rattle.std.proofs.Common.{◌≡◌, ℕ, List, drop, map}
use Rattle.std.specs.Prelude.{◌||◌}
use Rattle.core_reader.specs.LexedOf.{texts_of}
use Rattle.core_reader.specs.Tree.{data_of}
use Rattle.core_link.specs.Module.{text_in}
use Rattle.core_link.specs.ModuleOf.{module_of}
use Rattle.core_link.specs.Shared.{has, constructor_texts}
use Rattle.core_link.proofs.between.add_constructors.Given as goal

abbrev pub invariant-loop-constructor : goal.invariant-loop-constructor
invariant-loop-constructor l = (w : List ℕ) →
    (has (texts_of l.earlier.keys) w || has
    (map (λ d. text_in (module_of l.module) d.name)
    (map data_of (drop l.constructor-index l.constructor-items))) w) ≡
    (has (texts_of l.fn.earlier.keys) w || has (constructor_texts (module_of l.module)) w)
