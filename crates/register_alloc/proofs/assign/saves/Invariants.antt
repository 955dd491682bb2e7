use Rattle.std.proofs.Common.{take}
use Rattle.register_alloc.specs.Gathered.{SavesMatchCalls, calls_of_walks}
use Rattle.register_alloc.proofs.assign.saves.Given as goal

abbrev pub invariant-loop-walk : goal.invariant-loop-walk
invariant-loop-walk l = SavesMatchCalls l.masks (calls_of_walks (take l.walk-index l.walks))
    l.saves.items
