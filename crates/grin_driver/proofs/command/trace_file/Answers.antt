use Rattle.std.proofs.Common.{ℕ, List, arith}
use mathlib.Core.Logic.{inr}
use Rattle.text_commands.specs.Over.{shelf_over, sink_over}
use Rattle.grin_driver.specs.Tracing.{IsTraceOutcome}
use Rattle.text_commands.proofs.Files.{of_file}
use Rattle.grin_driver.proofs.Tracing.{traces_long}
use Rattle.grin_driver.proofs.command.trace_file.Goals as goal

pub returns-in-Ok-clause-answer : goal.returns-in-Ok-clause-answer
returns-in-Ok-clause-answer g c =
    let o = sink_over g.K.Sink c.args.out.now
    c.put_trace.new.out in
    let says = λ (text : List ℕ). IsTraceOutcome o text c.args.units c.put_trace.result in
    inr (of_file
    (shelf_over g.F.Shelf c.args.shelf.now c.read_file.new.shelf)
    1048577 c.args.file.now c.in-Ok.text.items says
    (λ text full long h. traces_long o c.in-Ok.text.items text c.args.units
    (omega (arith, full)) (omega (arith, long)) c.put_trace.result h)
    c.in-Ok.ensures.read (rw c.as_slice.ensures.value at c.put_trace.ensures.traces))
