use Rattle.std.proofs.Common.{ℕ, List, arith}
use mathlib.Core.Logic.{inr}
use Rattle.text_commands.specs.Over.{shelf_over, sink_over}
use Rattle.grin_driver.specs.After.{IsListAfterOutcome}
use Rattle.text_commands.proofs.Files.{of_file}
use Rattle.grin_driver.proofs.Listings.{lists_after_long}
use Rattle.grin_driver.proofs.command.list_file.Goals as goal

pub returns-in-Ok-clause-answer : goal.returns-in-Ok-clause-answer
returns-in-Ok-clause-answer g c =
    let says = λ (text : List ℕ). IsListAfterOutcome
    (sink_over g.K.Sink c.args.out.now
    c.list_after.new.out) text c.args.after c.list_after.result in
    inr (of_file
    (shelf_over g.F.Shelf c.args.shelf.now c.read_file.new.shelf)
    1048577 c.args.file.now c.in-Ok.text.items says
    (λ text full long h. lists_after_long
    (sink_over g.K.Sink c.args.out.now
    c.list_after.new.out) c.in-Ok.text.items text (omega (arith, full)) (omega (arith, long))
    c.args.after c.list_after.result h)
    c.in-Ok.ensures.read (rw c.as_slice.ensures.value at c.list_after.ensures.lists))
