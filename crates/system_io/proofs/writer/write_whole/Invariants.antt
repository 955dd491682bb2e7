use Rattle.std.proofs.Common.{length, take, ◌-◌, ◌≤◌}
use Rattle.std.specs.Io.KnownBytes.{Appends}
use Rattle.system_io.proofs.writer.write_whole.Given as goal

abbrev pub invariant-loop-done : goal.invariant-loop-done
invariant-loop-done g l = (l.fn.faults ≤ l.faults) × ((l.done ≤ length l.piece)
    × Appends (g.W.Write.contents l.initial.writer) (g.W.Write.contents l.writer)
    (take l.done l.piece))

abbrev pub decreases-loop-done : goal.decreases-loop-done
decreases-loop-done g l = length l.piece - l.done
