use Rattle.std.proofs.Common.{take}
use Rattle.unbox.specs.Rounds.{ProceduresRemoved}
use Rattle.unbox.proofs.blocks.Members.take_all.Given as goal

abbrev pub invariant-loop-f : goal.invariant-loop-f
invariant-loop-f l = ProceduresRemoved l.initial.self.inside l.self.inside (take l.f-index l.procs)
    l.changed
