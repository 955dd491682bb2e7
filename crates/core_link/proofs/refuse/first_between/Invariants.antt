use Rattle.std.proofs.Common.{ℕ, ◌<◌, map}
use Rattle.core_link.specs.ModuleOf.{module_of}
use Rattle.core_link.specs.Rules.{BreaksInterModuleRule}
use Rattle.core_link.specs.Shared.{TablesMatchModules}
use Rattle.core_link.proofs.refuse.first_between.Given as goal

abbrev pub invariant-loop-i : goal.invariant-loop-i
invariant-loop-i l = record {
  holds : TablesMatchModules (map module_of l.modules) l.i l.earlier.names.keys
      l.earlier.constructors.keys;
  none : (k file at : ℕ) → file < l.i → BreaksInterModuleRule (map module_of l.modules) k file at
      → ⊥;
}
