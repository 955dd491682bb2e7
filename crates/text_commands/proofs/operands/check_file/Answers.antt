use Rattle.std.proofs.Common.{ℕ, List, arith}
use mathlib.Core.Logic.{inr}
use Rattle.text_commands.specs.Over.{shelf_over, sink_over}
use Rattle.text_commands.specs.Checking.{IsCheckOutcome}
use Rattle.text_commands.proofs.Files.{of_file}
use Rattle.text_commands.proofs.Checks.{checks_long}
use Rattle.text_commands.proofs.operands.check_file.Goals as goal

pub returns-in-Ok-clause-answer : goal.returns-in-Ok-clause-answer
returns-in-Ok-clause-answer g c =
    let says = λ (text : List ℕ). IsCheckOutcome
    (sink_over g.K.Sink c.args.out.now
    c.check_text.new.out) text c.check_text.result in
    inr (of_file
    (shelf_over g.F.Shelf c.args.shelf.now c.read_file.new.shelf)
    1048577 c.args.file.now c.in-Ok.text.items says
    (λ text full long h. checks_long
    (sink_over g.K.Sink c.args.out.now
    c.check_text.new.out) c.in-Ok.text.items text (omega (arith, full)) (omega (arith, long))
    c.check_text.result h)
    c.in-Ok.ensures.read (rw c.as_slice.ensures.value at c.check_text.ensures.checks))
