use Rattle.std.proofs.Common.{◌≤◌, map, string_bytes, take}
use Rattle.text_commands.specs.Reading.{AddsFronts}
use Rattle.text_commands.proofs.reading.add_texts.Given as goal

abbrev pub invariant-loop-name : goal.invariant-loop-name
invariant-loop-name g l = record {
  added : AddsFronts (g.F.Shelf.content l.fn.shelf) (g.F.Shelf.content l.shelf) l.most
      (map string_bytes (take l.name-index l.names)) l.fn.texts l.texts;
  later : g.F.Shelf.faults l.fn.shelf ≤ g.F.Shelf.faults l.shelf;
}
