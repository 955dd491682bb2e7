use Rattle.std.proofs.Common.{take}
use Rattle.unbox.specs.Rounds.{TiesEnforced}
use Rattle.unbox.proofs.blocks.Members.sweep.Given as goal

abbrev pub invariant-loop-tie : goal.invariant-loop-tie
invariant-loop-tie l = TiesEnforced l.initial.self.inside l.self.inside (take l.tie-index l.ties)
    l.changed
