-- The levels that are left complete the text.
use Rattle.std.proofs.Common.{◌≡◌, ◌++◌}
use Rattle.image_trace.specs.Lines.{indent}
use Rattle.image_trace.proofs.text.put_indent.Given as goal

abbrev pub invariant-loop-left : goal.invariant-loop-left
invariant-loop-left l = l.text ++ indent l.left ≡ l.initial.text ++ indent l.levels

abbrev pub decreases-loop-left : goal.decreases-loop-left
decreases-loop-left l = l.left
