use Rattle.std.proofs.Common.{ℕ, List, Option, arith, refl}
use mathlib.Core.Logic.{inl}
use Rattle.text_commands.specs.Over.{shelf_over, source_over, sink_over}
use Rattle.text_commands.specs.declared.status.Status.{Status}
use Rattle.grin_driver.specs.Costs.{CostsExecution}
use Rattle.grin_driver.specs.Execution.{IsUntouched, Execution}
use Rattle.grin_driver.specs.declared.cost.Cost.{Cost}
use Rattle.grin_driver.proofs.Costs.{of_file_at_cost, costs_execution}
use Rattle.grin_driver.proofs.Execution.{execution_long}
use Rattle.grin_driver.proofs.command.exec_file.Goals as goal

pub returns-in-Ok-clause-answer : goal.returns-in-Ok-clause-answer
returns-in-Ok-clause-answer g c =
    let i = (source_over g.I.Source c.args.input.now c.exec_counted-ran.new.input) in
    let o = (sink_over g.K.Sink c.args.out.now
    c.exec_counted-ran.new.out) in
    let ran = c.exec_counted-ran in
    rw c.of_exec.ensures
    (of_file_at_cost i o (shelf_over g.F.Shelf c.args.shelf.now
    c.read_file.new.shelf) 1342177281 (IsUntouched i o) c.args.file.now c.in-Ok.bytes.items
    (λ (bytes : List ℕ) (s : Status). Execution i o bytes c.args.steps s)
    (λ (bytes : List ℕ) (s : Status) (h : Execution i o bytes c.args.steps s) (cost : Option Cost).
    CostsExecution i o
    bytes c.args.steps s h cost)
    ran.result.status _
    (λ bytes full long h cost. execution_long i o c.in-Ok.bytes.items bytes c.args.steps
    (omega (arith, full))
    (omega (arith, long)) ran.result.status h _ cost)
    c.in-Ok.ensures.read
    (costs_execution i o c.in-Ok.bytes.items c.args.steps ran.result.status ran.result.counts
    (rw c.as_slice.ensures.value at ran.ensures.ran)))

pub returns-in-Err-clause-answer : goal.returns-in-Err-clause-answer
returns-in-Err-clause-answer g c =
    rw (c.of.ensures.status, c.of.ensures.cost) (inl (c.in-Err.ensures.unread, (refl, refl)), refl)
