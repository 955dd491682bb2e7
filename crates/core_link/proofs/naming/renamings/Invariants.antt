use Rattle.std.proofs.Common.{take}
use Rattle.std.specs.List.{AllZip}
use Rattle.core_reader.specs.Different.{AreDistinct}
use Rattle.core_reader.specs.LexedOf.{texts_of}
use Rattle.core_link.specs.declared.naming.Named.{Named}
use Rattle.core_link.specs.ModuleOf.{module_of}
use Rattle.core_link.specs.Renaming.{AreNumbered}
use Rattle.core_link.proofs.naming.renamings.Given as goal

abbrev pub invariant-loop-module : goal.invariant-loop-module
invariant-loop-module l = record {
  different : AreDistinct (texts_of l.known.keys);
  numbered : AllZip (λ (n : Named). AreNumbered (texts_of l.known.keys) (module_of n.part))
      (take l.module-index l.modules) l.made.items;
}
