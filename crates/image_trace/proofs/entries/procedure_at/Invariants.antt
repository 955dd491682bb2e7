-- Whatever begins there is among the procedures that are left.
use Rattle.std.proofs.Common.{◌≡◌, drop}
use Rattle.rv32_steps.specs.Trace.{procedure_from}
use Rattle.image_trace.proofs.entries.procedure_at.Given as goal

abbrev pub invariant-loop-f : goal.invariant-loop-f
invariant-loop-f l = procedure_from l.f (drop l.f l.starts) l.at ≡ procedure_from 0 l.starts l.at
