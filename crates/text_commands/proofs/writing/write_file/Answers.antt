use Rattle.std.proofs.Common.{ℕ, List, arith}
use mathlib.Core.Logic.{inr}
use Rattle.text_commands.specs.Over.{shelf_over, sink_over}
use Rattle.text_commands.specs.Writing.{Writes}
use Rattle.text_commands.proofs.Files.{of_file}
use Rattle.text_commands.proofs.Written.{writes_as}
use Rattle.text_commands.proofs.writing.write_file.Goals as goal

pub returns-in-Ok-clause-answer : goal.returns-in-Ok-clause-answer
returns-in-Ok-clause-answer g c =
    let o = sink_over g.K.Sink c.args.out.now
    c.write_text.new.out in
    let made = g.M.Maker.made c.args.maker.now in
    let refused = g.M.Maker.refused c.args.maker.now in
    let says = λ (text : List ℕ). Writes made refused o text c.write_text.result in
    let front = c.in-Ok.text.items in
    inr (of_file
    (shelf_over g.F.Shelf c.args.shelf.now c.read_file.new.shelf)
    1048577 c.args.file.now front says
    (λ text full long h. writes_as made refused o front text
    (λ bytes. c.refuses_long.ensures.unmade front bytes (omega (arith, full)))
    (c.refuses_long.ensures.refused front text (omega (arith, full)) (omega (arith, long)))
    c.write_text.result h)
    c.in-Ok.ensures.read (rw c.as_slice.ensures.value at c.write_text.ensures.writes))
