use Rattle.std.proofs.Common.{arith}
use Rattle.std.proofs.lemmas.Grind.{common_steps}
use Rattle.text_commands.proofs.Files.{reads_on}
use Rattle.text_commands.proofs.reading.read_piece.Goals as goal

pub returns-clause-on : goal.returns-clause-on
returns-clause-on g c = reads_on (g.F.Shelf.content c.args.shelf.now)
    (g.F.Shelf.content c.read.new.self) c.args.bytes.now.items c.extend_from_slice.new.self.items _
    c.read.new.buf c.in-Ok.count (grind (arith, common_steps)) c.in-Ok.ensures.content
    (grind (arith, common_steps))
