use Rattle.std.proofs.Common.{◌≡◌, take}
use Rattle.register_alloc.specs.Gathered.{procs_of}
use Rattle.register_alloc.proofs.assign.callees.Given as goal

abbrev pub invariant-loop-call : goal.invariant-loop-call
invariant-loop-call l = l.procs ≡ procs_of (take l.call-index l.calls)
