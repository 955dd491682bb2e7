use Rattle.std.proofs.Common.{take, map}
use Rattle.seq.specs.Lists.{AllOf}
use Rattle.core_link.specs.ModuleOf.{module_of}
use Rattle.core_link.specs.Rules.{IsSound}
use Rattle.core_link.specs.Shared.{AreRead}
use Rattle.core_link.proofs.refuse.read_files.Given as goal

abbrev pub invariant-loop-i : goal.invariant-loop-i
invariant-loop-i l = record {
  read : AreRead (take l.i l.all) (map module_of l.modules.items) l.takings.items;
  sound : AllOf IsSound (take l.i l.all);
}
