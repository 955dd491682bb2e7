-- The frames that are passed all lie above.
use Rattle.std.proofs.Common.{◌≡◌, ◌+◌, drop}
use Rattle.image_trace.specs.Lines.{levels_around}
use Rattle.image_trace.proofs.text.levels_around.Given as goal

abbrev pub invariant-loop-n : goal.invariant-loop-n
invariant-loop-n l =
    l.n + levels_around l.x2 (drop l.n l.open) ≡ levels_around l.x2 l.open
