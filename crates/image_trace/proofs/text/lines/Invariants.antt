-- The lines of the entries that are left complete the text.
use Rattle.std.proofs.Common.{◌≡◌, ◌++◌, drop}
use Rattle.image_trace.specs.Lines.{lines_within, trace_text}
use Rattle.image_trace.proofs.text.lines.Given as goal

abbrev pub invariant-loop-entry : goal.invariant-loop-entry
invariant-loop-entry l =
    l.text ++ lines_within l.names l.open.items (drop l.entry-index l.entries)
    ≡ trace_text l.names l.entries
