use Rattle.std.proofs.Common.{rules, arith}
use Rattle.text_commands.proofs.Files.{read_full, read_ended, reading_on}
use Rattle.text_commands.proofs.reading.read_file.Goals as goal

pub returns-then-len-most-clause-read : goal.returns-then-len-most-clause-read
returns-then-len-most-clause-read g c =
    read_full g.F.Shelf.content g.F.Shelf.faults c.args.shelf.now c.loop-step.shelf c.args.most
    c.args.name.now c.loop-step.bytes.items c.loop-step.invariant.reading (search rules)

pub returns-then-not-more-clause-read : goal.returns-then-not-more-clause-read
returns-then-not-more-clause-read g c =
    read_ended g.F.Shelf.content g.F.Shelf.faults c.args.shelf.now c.read_piece.new.shelf
    c.args.most c.args.name.now c.read_piece.new.bytes.items
    (g.F.Shelf.content c.loop-step.shelf) c.loop-step.bytes.items c.in_ok-more.more
    c.loop-step.invariant.reading c.in_ok-more.ensures.on (search rules) c.read_piece.ensures.room

pub loop-step-preserved : goal.loop-step-preserved
loop-step-preserved g c = record {
  opened = c.read_piece.ensures.opened;
  short = c.read_piece.ensures.room;
  counted = omega (arith, c.in_ok-more.ensures.grew (search rules), c.loop-step.invariant.counted);
  later = omega (arith, c.loop-step.invariant.later, c.read_piece.ensures.later);
  reading = reading_on (g.F.Shelf.content c.args.shelf.now) (g.F.Shelf.content c.loop-step.shelf)
      (g.F.Shelf.content c.read_piece.new.shelf) c.args.name.now c.loop-step.bytes.items
      c.read_piece.new.bytes.items c.in_ok-more.more
      c.loop-step.invariant.reading c.in_ok-more.ensures.on;
}

pub returns-clause-read : goal.returns-clause-read
returns-clause-read g c =
    read_full g.F.Shelf.content g.F.Shelf.faults c.args.shelf.now c.loop-step.shelf c.args.most
    c.args.name.now c.loop-step.bytes.items c.loop-step.invariant.reading
    (omega (
      arith,
      c.loop-step.invariant.counted,
      c.loop-step.invariant.short,
      c.loop-step-test.false,
    ))
