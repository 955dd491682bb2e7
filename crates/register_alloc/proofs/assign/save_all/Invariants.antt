use Rattle.std.proofs.Common.{◌++◌, List, take}
use Rattle.register_alloc.specs.Gathered.{SavesMatchCalls}
use Rattle.register_alloc.specs.declared.registers.CallSite.{CallSite}
use Rattle.register_alloc.proofs.assign.save_all.Given as goal

abbrev pub invariant-loop-call : goal.invariant-loop-call
invariant-loop-call l = (done : List CallSite) → SavesMatchCalls l.masks done l.fn.saves.items
    → SavesMatchCalls l.masks (done ++ take l.call-index l.calls) l.saves.items
