use Rattle.std.proofs.Common.{◌≡◌, drop}
use Rattle.register_alloc.specs.Rounds.{joined_masks}
use Rattle.register_alloc.proofs.written.joined_masks.Given as goal

abbrev pub invariant-loop-proc : goal.invariant-loop-proc
invariant-loop-proc l = joined_masks l.masks l.all (drop l.proc-index l.called) ≡ joined_masks
    l.fn.masks l.fn.mask l.fn.called
