use Rattle.std.proofs.Common.{take, map}
use Rattle.core_link.specs.ModuleOf.{module_of}
use Rattle.core_link.specs.Shared.{IsIndex}
use Rattle.core_link.proofs.between.exports.Given as goal

abbrev pub invariant-loop-module : goal.invariant-loop-module
invariant-loop-module l = IsIndex (map module_of (take l.module-index l.modules)) l.exports.entries
