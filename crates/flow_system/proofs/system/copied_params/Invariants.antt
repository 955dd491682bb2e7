use Rattle.std.proofs.Common.{◌≡◌, take, map}
use Rattle.flow_system.proofs.system.copied_params.Given as goal

abbrev pub invariant-loop-proc : goal.invariant-loop-proc
invariant-loop-proc l = l.params ≡ map (λ q. q.params) (take l.proc-index l.proc-items)
