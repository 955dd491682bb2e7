use Rattle.std.proofs.Common.{◌≡◌, ◌≤◌, true, length}
use Rattle.text_commands.specs.Reading.{Reading}
use Rattle.text_commands.proofs.reading.read_file.Given as goal

abbrev pub invariant-loop-step : goal.invariant-loop-step
invariant-loop-step g l = record {
  opened : g.F.Shelf.is_open l.shelf ≡ true;
  short : length l.bytes.items ≤ l.most;
  counted : l._step ≤ length l.bytes.items;
  later : g.F.Shelf.faults l.fn.shelf ≤ g.F.Shelf.faults l.shelf;
  reading : Reading (g.F.Shelf.content l.fn.shelf) (g.F.Shelf.content l.shelf) l.name l.bytes.items;
}
