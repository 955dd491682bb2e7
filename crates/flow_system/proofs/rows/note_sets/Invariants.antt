use Rattle.std.proofs.Common.{take}
use Rattle.flow_system.specs.Rows.{RecordsReaderOfAll}
use Rattle.flow_system.proofs.rows.note_sets.Given as goal

abbrev pub invariant-loop-place : goal.invariant-loop-place
invariant-loop-place l = RecordsReaderOfAll l.sets l.number (take l.place-index l.places)
    l.initial.rows.items l.rows.items
