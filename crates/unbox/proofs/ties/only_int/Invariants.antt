use Rattle.std.proofs.Common.{take}
use Rattle.flow_system.specs.declared.fact.Place.TheVariants.{Var as var}
use Rattle.flow_system.specs.declared.fact.Part.TheVariants.{Word as word}
use Rattle.points_to.specs.Found.{found}
use Rattle.unbox.proofs.Readers.{Tested}
use Rattle.unbox.proofs.ties.only_int.Given as goal

abbrev pub invariant-loop-tag : goal.invariant-loop-tag
invariant-loop-tag l = Tested (found l.flow (var l.x.0) (word 0)) l.only
    (take l.tag-index l.tag-items)
