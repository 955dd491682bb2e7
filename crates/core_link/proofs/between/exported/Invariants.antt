use Rattle.std.proofs.Common.{◌≡◌, ℕ, List, drop, map}
use Rattle.std.specs.Prelude.{◌||◌}
use Rattle.core_reader.specs.LexedOf.{texts_of}
use Rattle.core_link.specs.Module.{text_in}
use Rattle.core_link.specs.ModuleOf.{module_of}
use Rattle.core_link.specs.Shared.{has, exports_text}
use Rattle.core_link.proofs.between.exported.Given as goal

abbrev pub invariant-loop-export : goal.invariant-loop-export
invariant-loop-export l = (w : List ℕ) →
    (has (texts_of l.texts.keys) w || has
    (map (λ b. text_in (module_of l.module) b.name.0) (drop l.export-index l.export-items)) w) ≡
    exports_text (module_of l.module) w
